-- The cut and the packets as functions, against the relations that they meet.
use Rattle.std.proofs.Common.{◌≡◌, ℕ, zero, suc, ◌+◌, ◌%◌, ◌^◌, ◌≤◌, Bool, Option, Some, None, List, [], ◌∷◌, ◌++◌, length, take, drop, refl, sym, ap, subst, ◌∙◌, arith}
use Rattle.std.specs.Prelude.{slice_get, ◌==◌}
use Rattle.std.proofs.lemmas.Bool.Decides.{nat_tests}
use Rattle.std.proofs.lemmas.List.{length-append, take_at, drop_at}
use Rattle.call_model.specs.Coding.{Slice}
use Rattle.call_model.specs.Numbers.{GreatestIs}
use Rattle.h263_types.specs.declared.blocks.Mb.{Mb}
use Rattle.h263_bits.specs.Bits.{bits_of, fields}
use Rattle.picture_header.specs.declared.header.Header.{Header}
use Rattle.rtp_header.specs.Written.{rtp_fields}
use Rattle.h263_payload.specs.Written.{written_payload}
use Rattle.slice_layer.specs.Written.{slice_text, padded}
use Rattle.packet_cutter.specs.Cut.{begins_at, extra_of, packet_bytes, IsCut, Fit}
use Rattle.packet_cutter.specs.Slices.{longest_of, slices_from, cut_of, runs_as_slices}
use Rattle.h263_bits.specs.Bytes.{bytes_filled}
use Rattle.packet_cutter.specs.Packets.{timestamp_of, packet_text, packet_of, is_last, packets_of, ArePackets, ArePacketsOf}
use Rattle.packet_cutter.proofs.Bytes.{bits_of_bytes}
use Rattle.packet_cutter.proofs.Counted.{ArePayloadsLong, length-packet}
use Rattle.packet_cutter.proofs.Sliced.{longest_is}

-- ---- the cut

-- slices are those of the function where they are a cut
pub cut_is : GreatestIs → (most : ℕ) (h : Header) (limit first : ℕ) (mbs : List Mb) (runs : List (List Mb))
    → length mbs ≤ most → IsCut h limit first mbs runs
    → runs_as_slices first runs ≡ slices_from most (packet_bytes h) limit first mbs
unfolding IsCut slices_from
cut_is found zero h limit first [] [] few cut = refl
cut_is found (suc most) h limit first [] [] few cut = refl
cut_is found most h limit first (m ∷ mbs) [] few cut = absurd cc
cut_is found most h limit first [] (run ∷ runs) few cut =
    absurd (omega (arith, ap length cut.1, length-append run cut.0, cut.2.some))
cut_is found zero h limit first (m ∷ mbs) (run ∷ runs) few cut = absurd (omega arith)
cut_is found (suc most) h limit first (m ∷ mbs) (run ∷ runs) few cut =
    let rest = cut.0 in
    let longest = cut.2 in
    let count : longest_of (packet_bytes h) limit first (m ∷ mbs) ≡ length run =
    ap (longest_of (packet_bytes h) limit first) cut.1
    ∙ longest_is found (packet_bytes h) limit first run rest longest.some longest.fits longest.longest in
    let front : take (length run) (m ∷ mbs) ≡ run = ap (take (length run)) cut.1 ∙ take_at run rest (length run) refl in
    let after : drop (length run) (m ∷ mbs) ≡ rest = ap (drop (length run)) cut.1
    ∙ drop_at run rest (length run) refl in
    let fewer : length rest ≤ most = omega (arith, ap length cut.1, length-append run rest, longest.some) in
    let slice : List Mb → Slice Mb = λ l. record { first = first; mbs = l } in
    let others = λ (n : ℕ) (l : List Mb). slices_from most (packet_bytes h) limit (first + n) l in
    ap (λ (l : List (Slice Mb)). slice run ∷ l) (cut_is found most h limit (first + length run) rest runs fewer cut.3)
    ∙ ap (λ (l : List Mb). slice run ∷ others (length run) l) (sym after)
    ∙ ap (λ (l : List Mb). slice l ∷ others (length run) (drop (length run) (m ∷ mbs))) (sym front)
    ∙ ap (λ (n : ℕ). slice (take n (m ∷ mbs)) ∷ others n (drop n (m ∷ mbs))) (sym count)

-- ---- the packets

same_last : (first : ℕ) (runs : List (List Mb)) → is_last (runs_as_slices first runs) ≡ is_last runs
same_last first [] = refl
same_last first (run ∷ runs) = refl

pub packets_are : (number sequence : ℕ) (h : Header) (first : ℕ) (runs : List (List Mb)) (packets : List (List ℕ))
    → ArePackets number sequence h first runs packets
    → packets ≡ packets_of number sequence h (runs_as_slices first runs)
unfolding ArePackets packets_of
packets_are number sequence h first [] packets each = each
packets_are number sequence h first (run ∷ runs) packets each =
    let after = packets_are number (sequence + 1) h (first + length run) runs each.1 each.4 in
    each.2 ∙ ap (λ (p : List ℕ). p ∷ each.1) (each.3
    ∙ ap (λ (b : Bool). packet_of number sequence b h first run) (sym (same_last (first + length run) runs)))
    ∙ ap (λ (l : List (List ℕ)). packet_of number sequence (is_last (runs_as_slices (first + length run) runs)) h first
    run ∷
    l) after

pub are_packets : (number sequence : ℕ) (h : Header) (first : ℕ) (runs : List (List Mb))
    → ArePackets number sequence h first runs (packets_of number sequence h (runs_as_slices first runs))
unfolding ArePackets packets_of
are_packets number sequence h first [] = refl
are_packets number sequence h first (run ∷ runs) = (
  packet_of number sequence (is_last (runs_as_slices (first + length run) runs)) h first run,
  packets_of number (sequence + 1) h (runs_as_slices (first + length run) runs),
  refl,
  ap (λ (b : Bool). packet_of number sequence b h first run) (same_last (first + length run) runs),
  are_packets number (sequence + 1) h (first + length run) runs,
)

pub packets_of_cut : GreatestIs
    → (number sequence : ℕ) (h : Header) (limit : ℕ) (mbs : List Mb) (packets : List (List ℕ))
    → ArePacketsOf number sequence h limit mbs packets
    → packets ≡ packets_of number sequence h (cut_of h limit mbs)
packets_of_cut found number sequence h limit mbs packets p =
    packets_are number sequence h 0 p.runs packets p.each
    ∙ ap (packets_of number sequence h) (cut_is found (length mbs) h limit 0 mbs p.runs (omega arith) p.cut)

-- and back, where there is a cut
pub cut_of_packets : GreatestIs
    → (number sequence : ℕ) (h : Header) (limit : ℕ) (mbs : List Mb) (packets : List (List ℕ)) (runs : List (List Mb))
    → IsCut h limit 0 mbs runs
    → packets ≡ packets_of number sequence h (cut_of h limit mbs) → ArePacketsOf number sequence h limit mbs packets
cut_of_packets found number sequence h limit mbs packets runs cut e =
    let same = sym (e ∙ ap (packets_of number sequence h)
    (sym (cut_is found (length mbs) h limit 0 mbs runs (omega arith) cut))) in
    record {
      runs = runs;
      cut = cut;
      each = subst (ArePackets number sequence h 0 runs) same (are_packets number sequence h 0 runs);
    }

-- ---- one packet each

pub length-packets_of : (number sequence : ℕ) (h : Header) (slices : List (Slice Mb))
    → length (packets_of number sequence h slices) ≡ length slices
unfolding packets_of
length-packets_of number sequence h [] = refl
length-packets_of number sequence h (slice ∷ slices) = ap suc (length-packets_of number (sequence + 1) h slices)

abbrev some_packet : List ℕ → Option (List ℕ)
some_packet p = Some p

-- a packet by its slice, its place and whether it is the last
abbrev placed : ℕ → ℕ → Bool → Header → Slice Mb → List ℕ
placed number sequence marker h slice = packet_of number sequence marker h slice.first slice.mbs

last_is : (slices : List (Slice Mb)) (n : ℕ) → n ≡ length slices → is_last slices ≡ (0 + 1 == suc n)
last_is [] n e = grind (arith, nat_tests)
last_is (slice ∷ slices) n e = grind (arith, nat_tests)

next_last : (j n : ℕ) → (j + 1 == n) ≡ (suc j + 1 == suc n)
next_last j n = grind (arith, nat_tests)

pub packet_at_is : (number sequence : ℕ) (h : Header) (slices : List (Slice Mb)) (j : ℕ) (slice : Slice Mb)
    → slice_get slices j ≡ Some slice
    → slice_get (packets_of number sequence h slices) j
    ≡ Some (packet_of number (sequence + j) (j + 1 == length slices) h slice.first slice.mbs)
unfolding packets_of
packet_at_is number sequence h [] j slice e = absurd cc
packet_at_is number sequence h (head ∷ slices) zero slice e =
    let same : head ≡ slice = cc in
    let start : sequence ≡ sequence + 0 = omega arith in
    ap (λ (s : Slice Mb). some_packet (placed number sequence (is_last slices) h s)) same
    ∙ ap (λ (n : ℕ). some_packet (placed number n (is_last slices) h slice)) start
    ∙ ap (λ (b : Bool). some_packet (placed number (sequence + 0) b h slice)) (last_is slices (length slices) refl)
packet_at_is number sequence h (head ∷ slices) (suc j) slice e =
    let place : sequence + 1 + j ≡ sequence + suc j = omega arith in
    packet_at_is number (sequence + 1) h slices j slice e
    ∙ ap (λ (n : ℕ). some_packet (placed number n (j + 1 == length slices) h slice)) place
    ∙ ap (λ (b : Bool). some_packet (placed number (sequence + suc j) b h slice)) (next_last j (length slices))

pub no_packet : (number sequence : ℕ) (h : Header) (slices : List (Slice Mb)) (j : ℕ) → slice_get slices j ≡ None
    → slice_get (packets_of number sequence h slices) j ≡ None
unfolding packets_of
no_packet number sequence h [] j e = refl
no_packet number sequence h (head ∷ slices) zero e = absurd cc
no_packet number sequence h (head ∷ slices) (suc j) e = no_packet number (sequence + 1) h slices j e

-- ---- sequence numbers modulo 2^16

pub same_packet : (number s t : ℕ) (marker : Bool) (h : Header) (first : ℕ) (run : List Mb) → s % 65536 ≡ t % 65536
    → packet_of number s marker h first run ≡ packet_of number t marker h first run
unfolding packet_of
same_packet number s t marker h first run e =
    ap (λ (n : ℕ). bytes_filled (packet_bytes h first run) (fields (rtp_fields marker n (timestamp_of number))
    ++ (written_payload (extra_of h (begins_at first)) ++ padded (slice_text h (begins_at first) first run)))) e

pub same_packets : (number s t : ℕ) (h : Header) (slices : List (Slice Mb)) → s % 65536 ≡ t % 65536
    → packets_of number s h slices ≡ packets_of number t h slices
unfolding packets_of
same_packets number s t h [] e = refl
same_packets number s t h (slice ∷ slices) e =
    let next : (s + 1) % 65536 ≡ (t + 1) % 65536 = omega arith in
    ap (λ (p : List ℕ). p ∷ packets_of number (s + 1) h slices)
    (same_packet number s t (is_last slices) h slice.first slice.mbs e)
    ∙ ap (λ (l : List (List ℕ)). packet_of number t (is_last slices) h slice.first slice.mbs ∷ l)
    (same_packets number (s + 1) (t + 1) h slices next)

pub wraps : (number sequence : ℕ) (h : Header) (slices : List (Slice Mb))
    → packets_of number (sequence % 2 ^ 16) h slices ≡ packets_of number sequence h slices
wraps number sequence h slices = let same : sequence % 2 ^ 16 % 65536 ≡ sequence % 65536 = omega arith in
    same_packets number (sequence % 2 ^ 16) sequence h slices same

-- ---- its bits

pub packet_bits : ArePayloadsLong → (number sequence : ℕ) (marker : Bool) (h : Header) (first : ℕ) (run : List Mb)
    → bits_of (packet_of number sequence marker h first run) ≡ packet_text number sequence marker h first run
unfolding packet_of
packet_bits many number sequence marker h first run =
    bits_of_bytes (packet_bytes h first run) (packet_text number sequence marker h first run)
    (length-packet many number sequence marker h first run)

-- ---- each slice fits

pub slice_fits : (h : Header) (limit first : ℕ) (runs : List (List Mb)) (j : ℕ) (slice : Slice Mb)
    → Fit h limit first runs → slice_get (runs_as_slices first runs) j ≡ Some slice
    → packet_bytes h slice.first slice.mbs ≤ limit
unfolding Fit
slice_fits h limit first [] j slice fit e = absurd cc
slice_fits h limit first (run ∷ runs) zero slice fit e =
    let head : Slice Mb = record { first = first; mbs = run } in
    let same : head ≡ slice = cc in
    subst (λ (s : Slice Mb). packet_bytes h s.first s.mbs ≤ limit) same fit.1
slice_fits h limit first (run ∷ runs) (suc j) slice fit e = slice_fits h limit (first + length run) runs j slice fit.2 e
