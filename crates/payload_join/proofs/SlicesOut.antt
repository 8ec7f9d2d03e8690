-- What goes out of a unit of slices are packets of these slices.
use Rattle.std.proofs.Common.{◌≡◌, ℕ, zero, suc, ◌+◌, ◌-◌, ◌*◌, ◌<◌, ◌≤◌, ◌⊎◌, inl, inr, Bool, true, false, cond, List, [], ◌∷◌, ◌++◌, length, map, drop, get_or, Some, None, Result, Ok, Err, refl, sym, ap, subst, ◌∙◌, append_assoc, append-nil, arith}
use Rattle.std.specs.Prelude.{nat_lt, All}
use Rattle.std.proofs.lemmas.Bool.{le-ltb, lt-ltb}
use Rattle.std.proofs.lemmas.List.{length-append, length-take}
use Rattle.h263_types.specs.declared.format.Format.{Format}
use Rattle.h263_bits.specs.declared.fault.Fault.{Fault}
use Rattle.h263_bits.specs.declared.fault.FaultKind.TheVariants as faults
use Rattle.h263_bits.specs.Bits.{bits_of}
use Rattle.h263_bits.specs.Syntax.{Spells, standing_at, reading, IsIn}
use Rattle.h263_bits.proofs.SyntaxLaws.{bind_ok, ok_is, passed_if, bits_of-append, sound}
use Rattle.picture_header.specs.declared.header.Header.{Header}
use Rattle.rtp_header.specs.declared.rtp.Rtp.{Rtp}
use Rattle.rtp_header.specs.Text.{Head, head, rtp_front, IsRtp}
use Rattle.rtp_header.specs.Faults.{rtp_in}
use Rattle.h263_payload.specs.declared.payload.Opening.{Opening}
use Rattle.h263_payload.specs.Text.{payload_opening, IsExtra}
use Rattle.h263_payload.specs.Faults.{payload_bits_of}
use Rattle.packet_collector.specs.Packet.{PacketSlice, IsPacket}
use Rattle.payload_join.specs.Packet.{Packet, Extra, extra_carried, bytes_between, extra_from, coded_from, opened_as, packet_after, packet_in}
use Rattle.payload_join.specs.Split.{split_of, parts_joined}
use Rattle.payload_join.specs.Slices.{IsFirstPart, IsSlicePart, EachIs, IsLaterOf, GoOn}
use Rattle.payload_join.specs.Outgoing.{no_extra, outgoing, padded_bytes, header_copied, begins_picture, each_out, picture_out, begun_out, unit_out, out_by, outgoing_of}
use Rattle.payload_join.specs.Outgoing.{coded_from as unit_bytes}
use Rattle.payload_join.specs.Laws.{ArePacketsOfSlices}
use Rattle.payload_join.proofs.Splits.{is_split}
use Rattle.payload_join.proofs.Payloads.{AreRead, Fits, is_packet}
use Rattle.payload_join.proofs.Copied.{header_begun, later_begun, is_copy, begins_is}

-- ---- what is read of a packet fits its fields

pub record IsInFields (p : Packet) : Type 0 where
  pub sequence : p.sequence < 65536
  pub timestamp : p.timestamp < 4294967296
  pub few : length p.extra.bytes < 64
  pub bits : p.extra.pebit < 8

rtp_fits : (r : Rtp) (bytes : List ℕ) → IsRtp r bytes → (r.sequence < 65536) × (r.timestamp < 4294967296)
unfolding rtp_front head Spells
rtp_fits r bytes is =
    let h = is.text.0 in
    let fixed = is.text.4 in
    let sequence = fixed.5.5.5.5.5.5 in
    let timestamp = sequence.5 in
    let value = timestamp.5.5.0 in
    let same : is.fields ≡ h = is.text.6.6.0 in
    let a : r.sequence ≡ sequence.0 = ap (λ (x : Rtp). x.sequence) is.value ∙ ap (λ (x : Head). x.sequence) (same
    ∙ value) in
    let b : r.timestamp ≡ timestamp.0 = ap (λ (x : Rtp). x.timestamp) is.value ∙ ap (λ (x : Head). x.timestamp) (same
    ∙ value) in
    (omega (arith, a, sequence.2), omega (arith, b, timestamp.2))

opening_fits : (o : Opening) (text : List Bool) → Spells (payload_opening true) o text → (o.plen < 64) × (o.pebit < 8)
unfolding payload_opening Spells
opening_fits o text is =
    let plen = is.5.5.5 in
    let pebit = plen.5 in
    let value = pebit.5.0 in
    let a : o.plen ≡ plen.0 = ap (λ (x : Opening). x.plen) value in
    let b : o.pebit ≡ pebit.0 = ap (λ (x : Opening). x.pebit) value in
    (omega (arith, a, plen.2), omega (arith, b, pebit.2))

standing_read : {A : Type 0} (at : ℕ) (r : Result A Fault) (y : A) → standing_at at r ≡ Ok y → r ≡ Ok y
standing_read at (Ok x) y e = e
standing_read at (Err f) y e = absurd cc

extra_bits : (some : Bool) (bits : ℕ) → bits < 8 → cond some bits 0 < 8
extra_bits true bits lt = lt
extra_bits false bits lt = omega arith

pub in_fields : AreRead → (bytes : List ℕ) (p : Packet) → packet_in bytes ≡ Ok p → IsInFields p
unfolding packet_in packet_after
in_fields below bytes p e =
    let r = bind_ok (rtp_in bytes) (packet_after bytes) p e in
    let read = reading (payload_opening true) (payload_bits_of bytes r.0) in
    let o = bind_ok (standing_at (8 * r.0.from) read) (λ x. opened_as bytes r.0 x.0) p r.2 in
    let spelt = sound (payload_opening true) (payload_bits_of bytes r.0) o.0.1 o.0.0
    (standing_read (8 * r.0.from) read o.0 o.1)
    in
    let rtp = rtp_fits r.0 bytes (below.rtp_read r.0 bytes r.1) in
    let fits = opening_fits o.0.0 spelt.0 spelt.2 in
    let extra = bytes_between bytes (extra_from r.0 o.0.0) (coded_from r.0 o.0.0) in
    let found : Packet = record {
      begins = o.0.0.p;
      marker = r.0.marker;
      sequence = r.0.sequence;
      timestamp = r.0.timestamp;
      extra = extra_carried o.0.0.plen o.0.0.pebit extra;
      coded = bytes_between bytes (coded_from r.0 o.0.0) r.0.to;
    } in
    let passed = passed_if (nat_lt r.0.to (coded_from r.0 o.0.0)) (record {
      kind = faults.Ended;
      at = 8 * extra_from r.0 o.0.0;
    }) (Ok found) p o.2 in
    let same : found ≡ p = ok_is found p passed.1 in
    let few : length extra ≤ o.0.0.plen = omega (
      arith,
      length-take (coded_from r.0 o.0.0 - extra_from r.0 o.0.0)
          (drop (extra_from r.0 o.0.0) bytes),
    ) in
    subst IsInFields same (record {
      sequence = rtp.0;
      timestamp = rtp.1;
      few = omega (arith, few, fits.0);
      bits = extra_bits (nat_lt 0 o.0.0.plen) o.0.0.pebit fits.1;
    })

-- ---- one packet each

-- the later slices of a picture, each with its header
later_packets : AreRead → (format : Format) (first : Packet) (e : Extra) (h : Header) (slices : List PacketSlice)
    (parts : List (List ℕ))
    → first.sequence < 65536 → first.timestamp < 4294967296 → length e.bytes < 64 → e.pebit < 8
    → IsExtra format (length e.bytes) e.pebit (Some h) (bits_of e.bytes) → ((part : List ℕ) → IsIn part parts
    → length part ≤ 65400) → EachIs (IsLaterOf h) slices parts
    → EachIs (IsPacket format) slices (map (outgoing first e) parts)
later_packets below format first e h [] [] s t few bits is short each = tt
later_packets below format first e h [] (part ∷ parts) s t few bits is short each = absurd each
later_packets below format first e h (slice ∷ slices) [] s t few bits is short each = absurd each
later_packets below format first e h (slice ∷ slices) (part ∷ parts) s t few bits is short each =
    let text = each.0.1 in
    let fits : Fits first e part = record {
      sequence = s;
      timestamp = t;
      few = few;
      bits = bits;
      short = short part (inl refl);
    } in
    let extra : IsExtra format (length e.bytes) e.pebit (Some slice.header) (bits_of e.bytes) =
    subst (λ (g : Header). IsExtra format (length e.bytes) e.pebit (Some g) (bits_of e.bytes)) (sym each.0.0) is in (
      is_packet below format first e part slice (Some slice.header) false [] (bits_of part) fits extra
          (later_begun slice.header slice.first slice.mbs (bits_of part) text) refl refl (refl, refl) text,
      later_packets below format first e h slices parts s t few bits is (λ p there. short p (inr there)) each.1,
    )

-- a picture's first slice, with the picture header before it
first_packet : AreRead → (format : Format) (first : Packet) (s : PacketSlice) (part : List ℕ)
    → first.sequence < 65536 → first.timestamp < 4294967296 → length part ≤ 65400 → IsFirstPart format s part
    → IsPacket format s (outgoing first no_extra part)
unfolding bits_of
first_packet below format first s part a b short is =
    let begun = header_begun format s.header is.text is.spelt in
    is_packet below format first no_extra part s None true is.text is.slice (record {
      sequence = a;
      timestamp = b;
      few = omega arith;
      bits = omega arith;
      short = short;
    })
    (refl, refl) (begun.0 ++ is.slice, is.parts ∙ ap (λ (t : List Bool). t ++ is.slice) begun.1)
    refl is.parts is.spelt is.is

-- ---- the parts of a unit

-- each is no longer than all of them
part_short : (parts : List (List ℕ)) (part : List ℕ) → IsIn part parts → length part ≤ length (parts_joined parts)
part_short [] part there = absurd there
part_short (p ∷ []) part (inl same) = omega (arith, ap (λ (l : List ℕ). length l) same)
part_short (p ∷ []) part (inr there) = absurd there
part_short (p ∷ q ∷ parts) part (inl same) = omega (
  arith,
  ap (λ (l : List ℕ). length l) same,
  length-append p (0 ∷ 0 ∷ parts_joined (q ∷ parts)),
)
part_short (p ∷ q ∷ parts) part (inr there) = omega (
  arith,
  part_short (q ∷ parts) part there,
  length-append p (0 ∷ 0 ∷ parts_joined (q ∷ parts)),
)

-- the first stands at the front
joined_more : (part : List ℕ) (parts : List (List ℕ)) → (more : List ℕ) × (parts_joined (part ∷ parts) ≡ part ++ more)
joined_more part [] = ([], sym (append-nil part))
joined_more part (next ∷ parts) = (0 ∷ 0 ∷ parts_joined (next ∷ parts), refl)

-- each slice's part is the part of a slice
are_parts : (h : Header) (slices : List PacketSlice) (parts : List (List ℕ)) → EachIs (IsLaterOf h) slices parts
    → (k : ℕ) (d : List ℕ) → k < length parts → IsSlicePart (get_or parts k d)
are_parts h [] [] each k d lt = absurd (omega arith)
are_parts h [] (part ∷ parts) each k d lt = absurd each
are_parts h (s ∷ slices) [] each k d lt = absurd each
are_parts h (s ∷ slices) (part ∷ parts) each zero d lt = inr (s, each.0.1)
are_parts h (s ∷ slices) (part ∷ parts) each (suc k) d lt = are_parts h slices parts each.1 k d (omega arith)

-- ---- what goes out

each_alike : (first : Packet) (e : Extra) (parts : List (List ℕ)) → each_out first e e parts
    ≡ map (outgoing first e) parts
each_alike first e [] = refl
each_alike first e (part ∷ parts) = refl

going_on : AreRead → (format : Format) (first : Packet) (slices : List PacketSlice) (parts : List (List ℕ))
    → IsInFields first
    → length (parts_joined parts) ≤ 65400
    → All (λ part. All (λ byte. byte < 256) part) parts → GoOn format first.extra slices parts
    → EachIs (IsPacket format) slices (unit_out format first (parts_joined parts))
unfolding unit_out
going_on below format first slices parts f short bytes is =
    let coded = parts_joined parts in
    let e = first.extra in
    let fits : nat_lt 65400 (length coded) ≡ false = le-ltb 65400 (length coded) short in
    let some : nat_lt 0 (length e.bytes) ≡ true = lt-ltb 0 (length e.bytes) is.is.3 in
    let cut : split_of coded
    ≡ parts = is_split parts is.some bytes (λ k d lt. are_parts is.header slices parts is.each k d lt) in
    let out : unit_out format first coded ≡ each_out first e e (split_of coded) = rw (fits, some) refl in
    subst (EachIs (IsPacket format) slices) (sym (out ∙ ap (each_out first e e) cut ∙ each_alike first e parts))
    (later_packets below format first e is.header slices parts f.sequence f.timestamp f.few f.bits is.is
    (λ part there. omega (arith, part_short parts part there)) is.each)

-- a unit that begins a picture is not one with an extra header
begun_is : (format : Format) (first : Packet) (coded : List ℕ) → first.extra.bytes ≡ [] → length coded ≤ 65400
    → begins_picture coded ≡ true
    → unit_out format first coded ≡ begun_out format first coded (split_of coded)
unfolding unit_out
begun_is format first coded none short picture =
    let fits : nat_lt 65400 (length coded) ≡ false = le-ltb 65400 (length coded) short in
    let alone : nat_lt 0 (length first.extra.bytes) ≡ false = rw none refl in
    rw (fits, alone, picture) refl

begin_parts : (format : Format) (s : PacketSlice) (slices : List PacketSlice) (part : List ℕ) (parts : List (List ℕ))
    → IsFirstPart format s part → EachIs (IsLaterOf s.header) slices parts
    → (k : ℕ) (d : List ℕ) → k < length (part ∷ parts) → IsSlicePart (get_or (part ∷ parts) k d)
begin_parts format s slices part parts is each zero d lt = inl (format, s, is)
begin_parts format s slices part parts is each (suc k) d lt = are_parts s.header slices parts each k d (omega arith)

-- the first slice, and the others with a copy of its header
begun_packets : AreRead → (format : Format) (first : Packet) (s : PacketSlice) (slices : List PacketSlice)
    (part : List ℕ)
    (parts : List (List ℕ)) (coded : List ℕ) (rest : List Bool) → IsInFields first
    → (is : IsFirstPart format s part) → (parts ≡ []) ⊎ (length is.text ≤ 8 * 63) → bits_of coded ≡ is.text ++ rest
    → split_of coded ≡ part ∷ parts
    → EachIs (IsLaterOf s.header) slices parts → ((p : List ℕ) → IsIn p parts → length p ≤ 65400)
    → IsPacket format s (outgoing first no_extra part)
    → EachIs (IsPacket format) (s ∷ slices) (begun_out format first coded (part ∷ parts))
begun_packets below format first s [] part [] coded rest f is few whole cut each short head = (head, tt)
begun_packets below format first s (t ∷ slices) part [] coded rest f is few whole cut each short head = absurd each
begun_packets below format first s slices part (next ∷ parts) coded rest f is (inl none) whole cut each short head =
    absurd cc
begun_packets below format first s slices part (next ∷ parts) coded rest f is (inr few) whole cut each short head =
    let e = padded_bytes (length is.text) coded in
    let copy = is_copy below.headers format s.header coded is.text rest is.spelt whole few in
    let out : picture_out first coded (header_copied format coded)
    ≡ outgoing first no_extra part ∷ map (outgoing first e)
    (next ∷ parts) =
    ap (picture_out first coded) copy.found ∙ ap (each_out first no_extra e) cut in
    subst (EachIs (IsPacket format) (s ∷ slices)) (sym out) (
      head,
      later_packets below format first e s.header slices (next ∷ parts) f.sequence f.timestamp copy.few copy.bits
          copy.is short each,
    )

beginning : AreRead → (format : Format) (first : Packet) (s : PacketSlice) (slices : List PacketSlice) (part : List ℕ)
    (parts : List (List ℕ)) → IsInFields first → length (parts_joined (part ∷ parts)) ≤ 65400
    → All (λ part. All (λ byte. byte < 256) part) (part ∷ parts) → first.extra.bytes ≡ []
    → (is : IsFirstPart format s part) → (parts ≡ []) ⊎ (length is.text ≤ 8 * 63)
    → EachIs (IsLaterOf s.header) slices parts
    → EachIs (IsPacket format) (s ∷ slices) (unit_out format first (parts_joined (part ∷ parts)))
beginning below format first s slices part parts f short bytes none is few each =
    let coded = parts_joined (part ∷ parts) in
    let more = joined_more part parts in
    let begun = header_begun format s.header is.text is.spelt in
    let bits : bits_of part ≡ true ∷ false ∷ (begun.0 ++ is.slice) = is.parts
    ∙ ap (λ (t : List Bool). t ++ is.slice) begun.1 in
    let picture : begins_picture coded ≡ true = ap begins_picture more.1
    ∙ begins_is part more.0 (begun.0 ++ is.slice) (bytes 0 part (omega arith)) bits in
    let cut : split_of coded ≡ part ∷ parts = is_split (part ∷ parts) (omega arith) bytes
    (begin_parts format s slices part parts is each) in
    let whole : bits_of coded ≡ is.text ++ (is.slice ++ bits_of more.0) =
    ap bits_of more.1 ∙ bits_of-append part more.0 ∙ ap (λ (t : List Bool). t ++ bits_of more.0) is.parts
    ∙ append_assoc is.text is.slice (bits_of more.0) in
    let out : unit_out format first coded ≡ begun_out format first coded (part ∷ parts) =
    begun_is format first coded none short picture ∙ ap (begun_out format first coded) cut in
    let each_short : (p : List ℕ) → IsIn p (part ∷ parts)
    → length p ≤ 65400 = λ p there. omega (arith, part_short (part ∷ parts) p there) in
    subst (EachIs (IsPacket format) (s ∷ slices)) (sym out)
    (begun_packets below format first s slices part parts coded (is.slice ++ bits_of more.0) f is few whole cut each
    (λ p there. each_short p (inr there))
    (first_packet below format first s part f.sequence f.timestamp (each_short part (inl refl)) is))

-- ---- a whole unit

pub of_slices : AreRead → ArePacketsOfSlices
unfolding outgoing_of
of_slices below format at x k bytes first slices parts read there coded short small (inl is) =
    let f = in_fields below bytes first read in
    let out : outgoing_of format at x k ≡ unit_out format first (parts_joined parts) =
    ap (out_by format (unit_bytes at x (k + 1))) there ∙ ap (unit_out format first) coded in
    let short_is : length (parts_joined (is.part ∷ is.after)) ≤ 65400 =
    subst (λ (p : List (List ℕ)). length (parts_joined p) ≤ 65400) is.parts_are short in
    let small_are = subst (λ (p : List (List ℕ)). All (λ part. All (λ byte. byte < 256) part) p) is.parts_are small in
    subst (EachIs (IsPacket format) slices) (sym out)
    (subst (λ (l : List PacketSlice). EachIs (IsPacket format) l (unit_out format first (parts_joined parts)))
    (sym is.slices_are)
    (subst (λ (p : List (List ℕ)). EachIs (IsPacket format) (is.first ∷ is.others)
    (unit_out format first (parts_joined p)))
    (sym is.parts_are)
    (beginning below format first is.first is.others is.part is.after f short_is small_are is.none is.begun is.short
    is.each)))
of_slices below format at x k bytes first slices parts read there coded short small (inr is) =
    let f = in_fields below bytes first read in
    let out : outgoing_of format at x k ≡ unit_out format first (parts_joined parts) =
    ap (out_by format (unit_bytes at x (k + 1))) there ∙ ap (unit_out format first) coded in
    subst (EachIs (IsPacket format) slices) (sym out) (going_on below format first slices parts f short small is)
