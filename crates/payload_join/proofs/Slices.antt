-- Zero bits in a row in the texts of slices.
use Rattle.std.proofs.Common.{◌≡◌, ℕ, ◌+◌, ◌<◌, ◌≤◌, Bool, true, false, List, [], ◌∷◌, ◌++◌, length, drop, refl, sym, subst, arith, append_assoc, inl, inr}
use Rattle.std.specs.Prelude.{Option, Some, None, nat_lt, replicate, not}
use Rattle.h263_types.specs.declared.format.Format.{Format}
use Rattle.h263_types.specs.declared.format.Format.TheVariants.{SubQcif, Qcif, Cif}
use Rattle.h263_types.specs.declared.blocks.Mb.{Mb}
use Rattle.h263_bits.specs.declared.fault.FaultKind.TheVariants as faults
use Rattle.h263_bits.specs.Bits.{spelled, bits_of}
use Rattle.h263_bits.specs.Syntax.{any, only, Spells}
use Rattle.picture_header.specs.declared.header.Header.{Header}
use Rattle.picture_header.specs.Text.{allowed_quant, IsHeaderText}
use Rattle.slice_layer.specs.Around.{Around, around, quant_after}
use Rattle.slice_layer.specs.Head.{address_bits, allowed_first, slice_reference, first_head, place, tail, later_head, head_of_slice}
use Rattle.slice_layer.specs.Text.{AreTexts, is_padding, IsSliceText}
use Rattle.h263_bits.proofs.SyntaxLaws.{and_both}
use Rattle.std.proofs.lemmas.Bool.{ltb-true}
use Rattle.std.specs.List.{list_all}
use Rattle.payload_join.specs.Laws.{HasZeros, NoStart}
use Rattle.payload_join.specs.Slices.{IsSlicePart}
use Rattle.payload_join.proofs.Zeros.{after_bit, zeros, zeros_then, zeros_add, seen, all_below, is_fine}
use Rattle.payload_join.proofs.Kept.{Keeps, keeps_done, keeps_any, keeps_tried, keeps_part, keeps_less}
use Rattle.payload_join.proofs.Macroblocks.{mb_keeps}
use Rattle.payload_join.proofs.Headers.{header_keeps}

marker_tried : all_below 2 (is_fine 1 9 (only 1 faults.Marker) (λ _. 0)) ≡ true
unfolding all_below zeros spelled
marker_tried = refl

-- MBA has nine bits at most
address_few : (format : Format) → address_bits format ≤ 9
address_few SubQcif = omega arith
address_few Qcif = omega arith
address_few Cif = omega arith

first_head_keeps : (h : Header) → Keeps (first_head h) 9 (λ _. 0)
unfolding first_head
first_head_keeps h =
    keeps_tried 1 (only 1 faults.Marker) _ 9 (λ _. 0) (λ _. 0) marker_tried (λ sepb1 free.
    keeps_any (address_bits h.format) (only 0 faults.Address) _ 0 (λ _. 0) (λ mba.
    keeps_less _ (0 + address_bits h.format) 9 (λ _. 0) (omega (arith, address_few h.format))
    (keeps_tried 1 (only 1 faults.Marker) _ 9 (λ _. 0) (λ _. 0) marker_tried (λ sepb3 free.
    keeps_done _ 0 (λ _. 0) (omega arith)))))

start_tried : all_below 2 (is_fine 1 15 (only 1 faults.NoStart) (λ _. 0)) ≡ true
unfolding all_below zeros spelled
start_tried = refl

squants_tried : all_below 32 (is_fine 5 9 allowed_quant (λ _. 4)) ≡ true
unfolding all_below zeros spelled
squants_tried = refl

place_keeps : (format : Format) → Keeps (place format) 15 (λ _. 0)
unfolding place
place_keeps format =
    keeps_tried 1 (only 1 faults.NoStart) _ 15 (λ _. 0) (λ _. 0) start_tried (λ start free.
    keeps_less _ 0 9 (λ _. 0) (omega arith)
    (keeps_tried 1 (only 1 faults.Marker) _ 9 (λ _. 0) (λ _. 0) marker_tried (λ sepb1 free.
    keeps_any (address_bits format) (allowed_first format) _ 0 (λ _. 0) (λ mba.
    keeps_less _ (0 + address_bits format) 9 (λ _. 0) (omega (arith, address_few format))
    (keeps_tried 5 allowed_quant _ 9 (λ _. 4) (λ _. 0) squants_tried (λ squant free.
    keeps_less _ 4 9 (λ _. 0) (omega arith)
    (keeps_tried 1 (only 1 faults.Marker) _ 9 (λ _. 0) (λ _. 0) marker_tried (λ sepb3 free.
    keeps_done _ 0 (λ _. 0) (omega arith)))))))))

refers_tried : all_below 2 (is_fine 1 3 (only 1 faults.SliceReference) (λ _. 0)) ≡ true
unfolding all_below zeros spelled
refers_tried = refl

reference_keeps : (trp : Option ℕ) → Keeps (slice_reference trp) 3 (λ _. 10)
unfolding slice_reference
reference_keeps None = keeps_any 1 (only 0 faults.SliceReference) _ 3 (λ _. 10) (λ refers. keeps_done tt 4 (λ _. 10)
    (omega arith))
reference_keeps (Some trp) =
    keeps_tried 1 (only 1 faults.SliceReference) _ 3 (λ _. 0) (λ _. 10) refers_tried (λ refers free.
    keeps_any 10 (only trp faults.SliceReference) _ 0 (λ _. 10) (λ again. keeps_done tt 10 (λ _. 10) (omega arith)))

bci_tried : all_below 4 (is_fine 2 10 (only 1 faults.Bci) (λ _. 0)) ≡ true
unfolding all_below zeros spelled
bci_tried = refl

tail_keeps : (trp : Option ℕ) → Keeps (tail trp) 0 (λ _. 0)
unfolding tail
tail_keeps trp =
    keeps_any 2 any _ 0 (λ _. 0) (λ gfid.
    keeps_any 1 (only 0 faults.SliceReference) _ 2 (λ _. 0) (λ tri.
    keeps_part (slice_reference trp) any _ 3 (λ _. 10) (λ _. 0) (reference_keeps trp) (λ again.
    keeps_tried 2 (only 1 faults.Bci) _ 10 (λ _. 0) (λ _. 0) bci_tried (λ bci free.
    keeps_done tt 0 (λ _. 0) (omega arith)))))

later_head_keeps : (h : Header) → Keeps (later_head h) 15 (λ _. 0)
unfolding later_head
later_head_keeps h =
    keeps_part (place h.format) any _ 15 (λ _. 0) (λ _. 0) (place_keeps h.format) (λ at.
    keeps_part (tail h.trp) any _ 0 (λ _. 0) (λ _. 0) (tail_keeps h.trp) (λ end.
    keeps_done at 0 (λ _. 0) (omega arith)))

texts_keep : (a : Around) (quant : ℕ) (before mbs : List Mb) (text : List Bool) → AreTexts a quant before mbs text
    → zeros 6 text ≤ 6
unfolding AreTexts zeros
texts_keep a quant before [] text h = rw h (omega arith)
texts_keep a quant before (m ∷ mbs) text h =
    rw h.2 (zeros_then 6 6 6 h.0 h.1 (mb_keeps a.kind quant (a.reaches (a.first + length before))
    (a.predictor before) m h.0 h.3) (texts_keep a (quant_after quant m) (before ++ m ∷ []) mbs h.1 h.4))

-- a slice after its header
first_keeps : (h : Header) (first quant : ℕ) (mbs : List Mb) (front held_after : List Bool)
    → Spells (head_of_slice h true) (first, quant) front → AreTexts (around h first) quant [] mbs held_after
    → zeros 9 (front ++ held_after) ≤ 6
first_keeps h first quant mbs front held_after opened each =
    zeros_then 9 6 6 front held_after (omega (arith, first_head_keeps h (first, quant) front opened))
    (texts_keep (around h first) quant [] mbs held_after each)

later_keeps : (h : Header) (first quant : ℕ) (mbs : List Mb) (front held_after : List Bool)
    → Spells (head_of_slice h false) (first, quant) front → AreTexts (around h first) quant [] mbs held_after
    → zeros 15 (front ++ held_after) ≤ 6
later_keeps h first quant mbs front held_after opened each =
    zeros_then 15 6 6 front held_after (omega (arith, later_head_keeps h (first, quant) front opened))
    (texts_keep (around h first) quant [] mbs held_after each)

-- sixteen after the first bit are sixteen
none_in : (text : List Bool) → zeros 15 text < 16 → HasZeros (drop 1 text) → ⊥
unfolding zeros
none_in [] lt h = let e : zeros 15 (h.front ++ (replicate 16 false ++ h.rest)) < 16 =
    subst (λ (t : List Bool). zeros 15 t < 16) h.parts lt in seen 15 h.front h.rest e
none_in (b ∷ text) lt h = seen (after_bit 15 b) h.front h.rest
    (subst (λ (t : List Bool). zeros (after_bit 15 b) t < 16) h.parts lt)

-- ---- with padding

padding_few : (bits : List Bool) → is_padding bits ≡ true → length bits < 8
padding_few bits e = ltb-true (length bits) 8 (and_both (nat_lt (length bits) 8) (list_all not bits) e).0

-- with the padding there are at most thirteen at the end
padded_keeps : (from : ℕ) (text padding : List Bool) → zeros from text ≤ 6 → is_padding padding ≡ true
    → zeros from (text ++ padding) ≤ 13
padded_keeps from text padding le e = zeros_then from 6 13 text padding le (omega (
  arith,
  zeros_add 6 padding,
  padding_few padding e,
))

whole_slice : (from : ℕ) (h : Header) (begins : Bool) (first : ℕ) (mbs : List Mb) (bits : List Bool)
    → (is : IsSliceText h begins first mbs bits)
    → ((text : List Bool) → AreTexts (around h first) is.quant [] mbs text → zeros from (is.front ++ text) ≤ 6)
    → zeros from bits ≤ 13
whole_slice from h begins first mbs bits is each =
    rw (is.parts, is.body.whole, sym (append_assoc is.front is.body.text is.body.padding)) (padded_keeps from (is.front
    ++ is.body.text) is.body.padding (each is.body.text is.body.each) is.body.zeros)

begun_quiet : (format : Format) (h : Header) (first : ℕ) (mbs : List Mb) (text slice : List Bool)
    → IsHeaderText format h text → IsSliceText h true first mbs slice → zeros 15 (text ++ slice) ≤ 13
begun_quiet format h first mbs text slice spelt is =
    zeros_then 15 9 13 text slice (header_keeps format h text spelt)
    (whole_slice 9 h true first mbs slice is (λ held_after each. first_keeps h first is.quant mbs is.front held_after
    is.opened each))

later_quiet : (h : Header) (first : ℕ) (mbs : List Mb) (slice : List Bool) → IsSliceText h false first mbs slice
    → zeros 15 slice ≤ 13
later_quiet h first mbs slice is =
    whole_slice 15 h false first mbs slice is (λ held_after each. later_keeps h first is.quant mbs is.front held_after
    is.opened each)

pub no_starts : NoStart
no_starts = record {
  picture = λ format h first mbs text slice spelt is. none_in (text
      ++ slice) (omega (arith, begun_quiet format h first mbs text slice spelt is));
  later = λ h first mbs slice is. none_in slice (omega (arith, later_quiet h first mbs slice is));
}

-- what is coded of a slice, with the picture header before it or without
pub part_quiet : (bytes : List ℕ) → IsSlicePart bytes → zeros 15 (bits_of bytes) ≤ 13
part_quiet bytes (inl x) =
    let s = x.1 in
    let p = x.2 in
    rw p.parts (begun_quiet x.0 s.header s.first s.mbs p.text p.slice p.spelt p.is)
part_quiet bytes (inr x) = let s = x.0 in later_quiet s.header s.first s.mbs (bits_of bytes) x.1
