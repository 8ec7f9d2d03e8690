-- An outgoing packet is a packet of the slice that its part is.
use Rattle.std.proofs.Common.{◌≡◌, ℕ, zero, suc, ◌+◌, ◌-◌, ◌*◌, ◌<◌, ◌≤◌, Bool, true, false, List, [], ◌∷◌, ◌++◌, length, take, drop, Option, Result, Ok, refl, sym, ap, subst, ◌∙◌, append_assoc, append-nil, arith}
use Rattle.std.specs.Prelude.{is_none}
use Rattle.std.proofs.lemmas.List.{length-append, length-drop, length-take-le, take-append-drop, take_at, drop_at, take_all}
use Rattle.h263_types.specs.declared.format.Format.{Format}
use Rattle.h263_bits.specs.declared.fault.Fault.{Fault}
use Rattle.h263_bits.specs.Bits.{number, spelled, bits_of, fields}
use Rattle.h263_bits.specs.Reading.{Bits, bits_between}
use Rattle.h263_bits.specs.Syntax.{Spells}
use Rattle.h263_bits.proofs.SyntaxLaws.{spelled-number, length-bits_of, bits_of-append, bits_of-take}
use Rattle.picture_header.specs.declared.header.Header.{Header}
use Rattle.picture_header.specs.Laws.{HeaderLaws}
use Rattle.rtp_header.specs.declared.rtp.Rtp.{Rtp}
use Rattle.rtp_header.specs.Text.{IsRtp}
use Rattle.rtp_header.specs.Faults.{rtp_in}
use Rattle.rtp_header.specs.Written.{rtp_fields, written_rtp}
use Rattle.h263_payload.specs.declared.payload.Opening.{Opening}
use Rattle.h263_payload.specs.declared.payload.Payload.{Payload}
use Rattle.h263_payload.specs.Text.{payload_opening, leading, IsExtra, IsStartCodeRest, IsPayload}
use Rattle.h263_payload.specs.Headed.{IsHeaded}
use Rattle.h263_payload.specs.Written.{payload_opening_fields}
use Rattle.slice_layer.specs.Text.{IsSliceText}
use Rattle.packet_collector.specs.Packet.{PacketSlice, IsPacket}
use Rattle.payload_join.specs.Packet.{Packet, Extra}
use Rattle.h263_bits.specs.Bytes.{bytes_filled}
use Rattle.payload_join.specs.Outgoing.{front_of, outgoing}

-- what the laws of the layers below say of a picture header and of RTP's
pub record AreRead : Type 0 where
  pub headers : HeaderLaws
  pub rtp_read : (r : Rtp) (bytes : List ℕ) → rtp_in bytes ≡ Ok r → IsRtp r bytes
  pub rtp_again : (bytes payload : List ℕ) (marker : Bool) (sequence timestamp : ℕ) → sequence < 65536
      → timestamp < 4294967296
      → bits_of bytes ≡ fields (rtp_fields marker sequence timestamp) → length payload ≤ 65523
      → rtp_in (bytes ++ payload) ≡ Ok (written_rtp marker sequence timestamp (length payload))

-- ---- bits and the bytes that they fill

length-bytes_in : (count : ℕ) (text : List Bool) → length (bytes_filled count text) ≡ count
unfolding bytes_filled
length-bytes_in zero text = refl
length-bytes_in (suc count) text = ap suc (length-bytes_in count (drop 8 text))

bits_of_bytes : (count : ℕ) (text : List Bool) → length text ≡ 8 * count → bits_of (bytes_filled count text) ≡ text
unfolding bytes_filled bits_of
bits_of_bytes zero [] e = refl
bits_of_bytes zero (b ∷ text) e = absurd (omega arith)
bits_of_bytes (suc count) text e =
    let long : length (take 8 text) ≡ 8 = length-take-le 8 text (omega arith) in
    let one : spelled 8 (number (take 8 text)) ≡ take 8 text = ap (λ (n : ℕ). spelled n (number (take 8 text)))
    (sym long) ∙ spelled-number (take 8 text) in
    let rest : bits_of (bytes_filled count (drop 8 text)) ≡ drop 8 text = bits_of_bytes count (drop 8 text)
    (omega (arith, length-drop 8 text)) in
    ap (λ (t : List Bool). t ++ bits_of (bytes_filled count (drop 8 text))) one
    ∙ ap (λ (t : List Bool). take 8 text ++ t) rest ∙ take-append-drop 8 text

length-rtp : (sequence timestamp : ℕ) → length (fields (rtp_fields false sequence timestamp)) ≡ 96
unfolding spelled
length-rtp sequence timestamp = refl

length-opening : (plen pebit : ℕ) → length (fields (payload_opening_fields plen pebit)) ≡ 16
unfolding spelled
length-opening plen pebit = refl

-- the bits after a text
after_text : (bytes : List ℕ) (front rest : List Bool) (at : ℕ) → bits_of bytes ≡ front ++ rest → length front ≡ at
    → bits_between bytes at (8 * length bytes) ≡ record { at = at; bits = rest }
after_text bytes front rest at e len =
    let room : length rest ≤ 8 * length bytes - at = omega (
      arith,
      length-bits_of bytes,
      ap length e,
      length-append front rest,
    ) in
    let there : drop at (bits_of bytes) ≡ rest = ap (drop at) e ∙ drop_at front rest at len in
    ap (λ (t : List Bool). record { at = at; bits = t }) (ap (take (8 * length bytes - at)) there
    ∙ take_all (8 * length bytes - at) rest room)

-- ---- RTP's header

abbrev ok_rtp : Rtp → Result Rtp Fault
ok_rtp r = Ok r

-- all bytes after the header are its payload
abbrev rtp_of : ℕ → ℕ → ℕ → Rtp
rtp_of sequence timestamp bytes = record {
  marker = false;
  sequence = sequence;
  timestamp = timestamp;
  from = 12;
  to = bytes;
}

is_rtp : AreRead → (sequence timestamp : ℕ) (bytes : List ℕ) (rest : List Bool) → sequence < 65536
    → timestamp < 4294967296
    → bits_of bytes ≡ fields (rtp_fields false sequence timestamp) ++ rest → length bytes ≤ 65535
    → IsRtp (rtp_of sequence timestamp (length bytes)) bytes
is_rtp below sequence timestamp bytes rest small few e short =
    let text = fields (rtp_fields false sequence timestamp) in
    let len : length text ≡ 96 = length-rtp sequence timestamp in
    let long : 12 ≤ length bytes = omega (arith, length-bits_of bytes, ap length e, length-append text rest, len) in
    let front : bits_of (take 12 bytes) ≡ text = bits_of-take 12 bytes long ∙ ap (take 96) e
    ∙ take_at text rest 96 len in
    let fits : length (drop 12 bytes) ≤ 65523 = omega (arith, length-drop 12 bytes) in
    let read = below.rtp_again (take 12 bytes) (drop 12 bytes) false sequence timestamp small few front fits in
    let end : 12 + length (drop 12 bytes) ≡ length bytes = omega (arith, length-drop 12 bytes) in
    below.rtp_read (rtp_of sequence timestamp (length bytes)) bytes
    (ap rtp_in (sym (take-append-drop 12 bytes)) ∙ read ∙ ap (λ (n : ℕ). ok_rtp (rtp_of sequence timestamp n)) end)

-- ---- the payload header

abbrev opening_of : ℕ → ℕ → Opening
opening_of plen pebit = record { p = true; v = false; plen = plen; pebit = pebit }

opening_spelt : (plen pebit : ℕ) → plen < 64 → pebit < 8
    → Spells (payload_opening false) (opening_of plen pebit) (fields (payload_opening_fields plen pebit))
unfolding payload_opening Spells
opening_spelt plen pebit few bits = (
  0,
  fields ((1, 1) ∷ (1, 0) ∷ (6, plen) ∷ (3, pebit) ∷ []),
  omega arith,
  refl,
  refl,
  (
    1,
    fields ((1, 0) ∷ (6, plen) ∷ (3, pebit) ∷ []),
    omega arith,
    refl,
    refl,
    (
      0,
      fields ((6, plen) ∷ (3, pebit) ∷ []),
      omega arith,
      refl,
      refl,
      (
        plen,
        fields ((3, pebit) ∷ []),
        omega arith,
        refl,
        refl,
        (pebit, [], omega arith, refl, refl, (refl, refl)),
      ),
    ),
  ),
)

leading_spelt : (plen pebit : ℕ) → plen < 64 → pebit < 8
    → Spells leading (opening_of plen pebit) (fields (payload_opening_fields plen pebit))
unfolding leading Spells
leading_spelt plen pebit few bits =
    let text = fields (payload_opening_fields plen pebit) in
    (opening_of plen pebit, text, [], sym (append-nil text), opening_spelt plen pebit few bits, refl, (refl, refl))

-- ---- a whole packet

-- what is known of what an outgoing packet is made of
pub record Fits (first : Packet) (e : Extra) (part : List ℕ) : Type 0 where
  pub sequence : first.sequence < 65536
  pub timestamp : first.timestamp < 4294967296
  pub few : length e.bytes < 64
  pub bits : e.pebit < 8
  pub short : length part ≤ 65400

front_bits : (first : Packet) (e : Extra) → bits_of (front_of first e)
    ≡ (fields (rtp_fields false first.sequence first.timestamp)
    ++ fields (payload_opening_fields (length e.bytes) e.pebit))
    ++ bits_of e.bytes
front_bits first e =
    let rtp = fields (rtp_fields false first.sequence first.timestamp) in
    let written = fields (payload_opening_fields (length e.bytes) e.pebit) in
    let len : length (rtp ++ written) ≡ 8 * 14 = omega (
      arith,
      length-append rtp written,
      length-rtp first.sequence first.timestamp,
      length-opening (length e.bytes) e.pebit,
    ) in
    bits_of-append (bytes_filled 14 (rtp ++ written)) e.bytes
    ∙ ap (λ (t : List Bool). t ++ bits_of e.bytes) (bits_of_bytes 14 (rtp ++ written) len)

packet_bits : (first : Packet) (e : Extra) (part : List ℕ)
    → bits_of (outgoing first e part) ≡ fields (rtp_fields false first.sequence first.timestamp)
    ++ (fields (payload_opening_fields (length e.bytes) e.pebit) ++ (bits_of e.bytes ++ bits_of part))
packet_bits first e part =
    let rtp = fields (rtp_fields false first.sequence first.timestamp) in
    let written = fields (payload_opening_fields (length e.bytes) e.pebit) in
    bits_of-append (front_of first e) part ∙ ap (λ (t : List Bool). t ++ bits_of part) (front_bits first e)
    ∙ regroup rtp written (bits_of e.bytes) (bits_of part)
  where
    regroup : (a b c d : List Bool) → ((a ++ b) ++ c) ++ d ≡ a ++ (b ++ (c ++ d))
    regroup a b c d = simp append_assoc

packet_length : (first : Packet) (e : Extra) (part : List ℕ) → length (outgoing first e part)
    ≡ 14 + length e.bytes + length part
packet_length first e part =
    let text = fields (rtp_fields false first.sequence first.timestamp)
    ++ fields (payload_opening_fields (length e.bytes) e.pebit) in
    omega (
      arith,
      length-append (front_of first e) part,
      length-append (bytes_filled 14 text) e.bytes,
      length-bytes_in 14 text,
    )

pub is_packet : AreRead → (format : Format) (first : Packet) (e : Extra) (part : List ℕ) (s : PacketSlice)
    (extra : Option Header) (begins : Bool) (front after : List Bool) → Fits first e part
    → IsExtra format (length e.bytes) e.pebit extra (bits_of e.bytes) → IsStartCodeRest begins (bits_of part)
    → begins ≡ is_none extra
    → bits_of part ≡ front ++ after → IsHeaded format extra s.header front
    → IsSliceText s.header begins s.first s.mbs after
    → IsPacket format s (outgoing first e part)
is_packet below format first e part s extra begins front after fits is begun alone parts headed text =
    let bytes = outgoing first e part in
    let rtp = fields (rtp_fields false first.sequence first.timestamp) in
    let written = fields (payload_opening_fields (length e.bytes) e.pebit) in
    let whole = packet_bits first e part in
    let l1 : length rtp ≡ 96 = length-rtp first.sequence first.timestamp in
    let l2 : length written ≡ 16 = length-opening (length e.bytes) e.pebit in
    let l3 : length (bits_of e.bytes) ≡ 8 * length e.bytes = length-bits_of e.bytes in
    let short : length bytes ≤ 65535 = omega (arith, packet_length first e part, fits.few, fits.short) in
    let there = after_text bytes rtp (written ++ (bits_of e.bytes ++ bits_of part)) 96 whole l1 in
    let before : bits_of bytes ≡ (rtp ++ (written ++ bits_of e.bytes)) ++ bits_of part = whole
    ∙ regroup rtp written (bits_of e.bytes) (bits_of part) in
    let len : length (rtp ++ (written ++ bits_of e.bytes)) ≡ 112 + 8 * length e.bytes = omega (
      arith,
      length-append rtp (written ++ bits_of e.bytes),
      length-append written (bits_of e.bytes),
      l1,
      l2,
      l3,
    ) in
    let left = after_text bytes (rtp ++ (written ++ bits_of e.bytes)) (bits_of part) (112 + 8 * length e.bytes) before
    len in
    let payload : Payload = record { extra = extra; begins = begins; from = 112 + 8 * length e.bytes } in
    record {
      rtp = rtp_of first.sequence first.timestamp (length bytes);
      payload = payload;
      front = front;
      after = after;
      is_rtp = is_rtp below first.sequence first.timestamp bytes (written ++ (bits_of e.bytes ++ bits_of part))
          fits.sequence fits.timestamp whole short;
      is_payload = subst (IsPayload format payload) (sym there) (record {
        opening = opening_of (length e.bytes) e.pebit;
        front = written;
        middle = bits_of e.bytes;
        coded = bits_of part;
        parts = refl;
        opened = leading_spelt (length e.bytes) e.pebit fits.few fits.bits;
        extra = is;
        begun = begun;
        begins = alone;
        from = omega (arith, l2, l3);
      });
      parts = ap (λ (b : Bits). b.bits) left ∙ parts;
      headed = headed;
      text = text;
    }
  where
    regroup : (a b c d : List Bool) → a ++ (b ++ (c ++ d)) ≡ (a ++ (b ++ c)) ++ d
    regroup a b c d = simp append_assoc
