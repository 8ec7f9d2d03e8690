-- What is written of a slice is a text of it.
use Rattle.std.proofs.Common.{◌≡◌, ℕ, zero, suc, ◌+◌, ◌/◌, ◌%◌, ◌^◌, ◌<◌, ◌≤◌, Bool, true, false, not, cond, List, [], ◌∷◌, ◌++◌, length, Option, Some, None, refl, sym, ap, subst, append_assoc, arith}
use Rattle.std.specs.Prelude.{◌==◌}
use Rattle.std.specs.List.{list_all}
use Rattle.std.proofs.Common.{eq-eqb}
use Rattle.std.proofs.lemmas.Bool.{eqb-true, lt-ltb}
use Rattle.std.proofs.lemmas.List.{append-nil}
use Rattle.h263_types.specs.declared.format.Format.{Format}
use Rattle.h263_types.specs.declared.format.Format.TheVariants.{SubQcif, Qcif, Cif}
use Rattle.h263_types.specs.declared.Kind.{Kind}
use Rattle.h263_types.specs.declared.Kind.TheVariants as kinds
use Rattle.h263_types.specs.declared.blocks.Mb.{Mb}
use Rattle.h263_types.specs.Sizes.{mbs_of}
use Rattle.h263_bits.specs.declared.fault.FaultKind.TheVariants as faults
use Rattle.h263_bits.specs.Bits.{is_set, spelled, fields}
use Rattle.h263_bits.specs.Written.{to_byte}
use Rattle.h263_bits.specs.Syntax.{any, only, Spells}
use Rattle.h263_bits.proofs.SyntaxLaws.{length-spelled, spells_field, spells_part, spells_done, spells_whole}
use Rattle.picture_header.specs.declared.header.Header.{Header}
use Rattle.h263_types.specs.declared.clock.Clock.{Clock}
use Rattle.h263_types.specs.declared.clock.Clock.TheVariants as clocks
use Rattle.picture_header.specs.Text.{allowed_quant}
use Rattle.picture_header.specs.Ranges.{HasTenBits, IsReference, IsHeader}
use Rattle.picture_header.specs.Written.{kind_code, reference_fields, written_header}
use Rattle.macroblock_layer.specs.Written.{mb_text}
use Rattle.macroblock_layer.specs.Laws.{MbLaws}
use Rattle.slice_layer.specs.Around.{Around, around, quant_after, reach_of}
use Rattle.slice_layer.specs.Head.{address_bits, allowed_first, slice_reference, first_head, place, tail, later_head, head_of_slice}
use Rattle.slice_layer.specs.Text.{is_padding, AreTexts, IsSliceText}
use Rattle.slice_layer.specs.Laws.{AreSlicesSpelt, IsOneMore}
use Rattle.slice_layer.specs.Written.{gfid, place_fields, tail_text, slice_head_text, mbs_text, slice_text, padded, quant_after_all, IsSlicePlace, IsWritable, AreWritable}

-- ---- the header

address_fits : (f : Format) → mbs_of f ≤ 2 ^ address_bits f
address_fits SubQcif = omega arith
address_fits Qcif = omega arith
address_fits Cif = omega arith

-- the picture's first macroblock, after the picture header
first_spelt : (h : Header) → Spells (first_head h) (0, h.quant) (slice_head_text h true 0)
unfolding first_head
first_spelt h =
    spells_field 1 (only 1 faults.Marker) _ _ 1 _ (omega arith) refl
    (spells_field (address_bits h.format) (only 0 faults.Address) _ _ 0 _ (some h.format) refl
    (spells_field 1 (only 1 faults.Marker) _ _ 1 _ (omega arith) refl (spells_done (0, h.quant))))
  where
    some : (f : Format) → 0 < 2 ^ address_bits f
    some SubQcif = omega arith
    some Qcif = omega arith
    some Cif = omega arith

later_allowed : (f : Format) (first : ℕ) → (first == 0) ≡ false → first < mbs_of f → allowed_first f first ≡ None
later_allowed f first later lt = rw (later, lt-ltb first (mbs_of f) lt) refl

quant_allowed : (value : ℕ) → 1 ≤ value → allowed_quant value ≡ None
quant_allowed value some = at_test (value == 0) refl
  where
    at_test : (t : Bool) → (value == 0) ≡ t → cond t (Some faults.Quant) None ≡ None
    at_test true e = absurd (omega (arith, eqb-true value 0 e))
    at_test false e = refl

place_spelt : (h : Header) (first : ℕ) → IsHeader h → (first == 0) ≡ false → first < mbs_of h.format
    → Spells (place h.format) (first, h.quant) (fields (place_fields h first))
unfolding place
place_spelt h first is later lt =
    spells_field 1 (only 1 faults.NoStart) _ _ 1 _ (omega arith) refl
    (spells_field 1 (only 1 faults.Marker) _ _ 1 _ (omega arith) refl
    (spells_field (address_bits h.format) (allowed_first h.format) _ _ first _
    (omega (arith, lt, address_fits h.format)) (later_allowed h.format first later lt)
    (spells_field 5 allowed_quant _ _ h.quant _ (omega (arith, is.quant_low)) (quant_allowed h.quant is.quant_some)
    (spells_field 1 (only 1 faults.Marker) _ _ 1 _ (omega arith) refl (spells_done (first, h.quant))))))

-- a temporal reference of either clock has ten bits
pub ten_bits : (clock : Clock) (kind : Kind) (trp : Option ℕ) → IsReference clock kind trp → HasTenBits trp
ten_bits clock kind None is = tt
ten_bits clock kinds.I (Some trp) is = absurd is
ten_bits clocks.Standard kinds.P (Some trp) is = omega (arith, is)
ten_bits clocks.Custom kinds.P (Some trp) is = omega (arith, is)

only_itself : (value : ℕ) → only value faults.SliceReference value ≡ None
only_itself value = rw (eq-eqb value value refl) refl

reference_spelt : (trp : Option ℕ) → HasTenBits trp → Spells (slice_reference trp) tt (fields (reference_fields trp))
unfolding slice_reference
reference_spelt None is = spells_field 1 (only 0 faults.SliceReference) _ _ 0 _ (omega arith) refl (spells_done tt)
reference_spelt (Some trp) is =
    spells_field 1 (only 1 faults.SliceReference) _ _ 1 _ (omega arith) refl
    (spells_field 10 (only trp faults.SliceReference) _ _ trp _ (omega (arith, is)) (only_itself trp) (spells_done tt))

code_low : (kind : Kind) → kind_code kind ≤ 1
code_low kinds.I = omega arith
code_low kinds.P = omega arith

tail_spelt : (h : Header) → IsHeader h → Spells (tail h.trp) tt (tail_text h)
unfolding tail
tail_spelt h is =
    spells_whole (tail h.trp) tt _ (tail_text h) (regroup (spelled 2 (gfid h)) (spelled 1 0)
    (fields (reference_fields h.trp) ++ fields ((2, 1) ∷ [])))
    (spells_field 2 any _ _ (gfid h) _ (omega (arith, is.rounding, code_low h.kind)) refl
    (spells_field 1 (only 0 faults.SliceReference) _ _ 0 _ (omega arith) refl
    (spells_part (slice_reference h.trp) any _ tt tt (fields (reference_fields h.trp)) _
    (reference_spelt h.trp (ten_bits h.clock h.kind h.trp is.trp)) refl
    (spells_field 2 (only 1 faults.Bci) _ _ 1 _ (omega arith) refl (spells_done tt)))))
  where
    regroup : (a b c : List Bool) → a ++ (b ++ c) ≡ (a ++ (b ++ [])) ++ c
    regroup a b c = simp (append_assoc, append-nil)

later_spelt : (h : Header) (first : ℕ) → IsHeader h → (first == 0) ≡ false → first < mbs_of h.format
    → Spells (later_head h) (first, h.quant) (slice_head_text h false first)
unfolding later_head
later_spelt h first is later lt =
    spells_whole (later_head h) (first, h.quant) _ (slice_head_text h false first)
    (ap (λ (t : List Bool). fields (place_fields h first) ++ t) (append-nil (tail_text h)))
    (spells_part (place h.format) any _ (first, h.quant) (first, h.quant) (fields (place_fields h first)) _
    (place_spelt h first is later lt) refl
    (spells_part (tail h.trp) any _ (first, h.quant) tt (tail_text h) [] (tail_spelt h is) refl
    (spells_done (first, h.quant))))

head_spelt : (h : Header) (begins : Bool) (first : ℕ) → IsHeader h → IsSlicePlace h begins first
    → Spells (head_of_slice h begins) (first, h.quant) (slice_head_text h begins first)
head_spelt h true first is at =
    let e : first ≡ 0 = eqb-true first 0 at.at_zero in
    subst (λ (n : ℕ). Spells (first_head h) (n, h.quant) (slice_head_text h true n)) (sym e) (first_spelt h)
head_spelt h false first is at = later_spelt h first is at.at_zero at.within

-- ---- the macroblocks

texts_spelt : MbLaws → (a : Around) (quant : ℕ) (before mbs : List Mb) → AreWritable a quant before mbs
    → AreTexts a quant before mbs (mbs_text a quant before mbs)
unfolding AreWritable AreTexts mbs_text
texts_spelt laws a quant before [] w = refl
texts_spelt laws a quant before (m ∷ mbs) w =
    let one = laws.spelt a.kind quant (a.reaches (a.first + length before)) (a.predictor before) m w.0.in_range
    w.0.of_kind w.0.step w.0.whole w.0.reached in
    let more = texts_spelt laws a (quant_after quant m) (before ++ m ∷ []) mbs w.1 in (
      mb_text a.kind quant (a.predictor before) m,
      mbs_text a (quant_after quant m) (before ++ m ∷ []) mbs,
      refl,
      one,
      more,
    )

-- ---- the slice

slice_spelt : MbLaws → (h : Header) (begins : Bool) (first : ℕ) (mbs : List Mb) (padding : List Bool) → IsHeader h
    → IsSlicePlace h begins first
    → 0 < length mbs → first + length mbs ≤ mbs_of h.format → AreWritable (around h first) h.quant [] mbs
    → is_padding padding ≡ true
    → IsSliceText h begins first mbs (slice_head_text h begins first ++ (mbs_text (around h first) h.quant [] mbs
    ++ padding))
slice_spelt laws h begins first mbs padding is at some within each zeros = record {
  front = slice_head_text h begins first;
  after = mbs_text (around h first) h.quant [] mbs ++ padding;
  quant = h.quant;
  parts = refl;
  opened = head_spelt h begins first is at;
  body = record {
    text = mbs_text (around h first) h.quant [] mbs;
    padding = padding;
    whole = refl;
    some = some;
    within = omega (arith, within);
    each = texts_spelt laws (around h first) h.quant [] mbs each;
    zeros = zeros;
  };
}

-- zero bits up to a byte are padding
zero_div : (n : ℕ) → 0 / n ≡ 0
zero_div n = omega arith

zero_bit : (n : ℕ) → is_set 0 n ≡ false
zero_bit n = ap (λ (k : ℕ). k % 2 == 1) (zero_div (2 ^ n))

all_zero : (n : ℕ) → list_all not (spelled n 0) ≡ true
unfolding spelled
all_zero zero = refl
all_zero (suc n) = rw (zero_bit n, all_zero n) refl

zeros_are_padding : (n : ℕ) → is_padding (spelled (to_byte n) 0) ≡ true
zeros_are_padding n = rw (
  lt-ltb (length (spelled (to_byte n) 0)) 8 (omega (arith, length-spelled (to_byte n) 0)),
  all_zero (to_byte n),
) refl

-- ---- as a writer leaves it

later_padded : MbLaws → (h : Header) (first : ℕ) (mbs : List Mb) → IsHeader h → IsSlicePlace h false first
    → 0 < length mbs → first + length mbs ≤ mbs_of h.format → AreWritable (around h first) h.quant [] mbs
    → IsSliceText h false first mbs (padded (slice_text h false first mbs))
later_padded laws h first mbs is at some within each =
    let n = length (slice_text h false first mbs) in
    let zeros : List Bool = spelled (to_byte n) 0 in
    let text = mbs_text (around h first) h.quant [] mbs in
    subst (λ (t : List Bool). IsSliceText h false first mbs t)
    (sym (append_assoc (slice_head_text h false first) text zeros))
    (slice_spelt laws h false first mbs zeros is at some within each (zeros_are_padding n))

first_padded : MbLaws → (h : Header) (first : ℕ) (mbs : List Mb) → IsHeader h → IsSlicePlace h true first
    → 0 < length mbs → first + length mbs ≤ mbs_of h.format → AreWritable (around h first) h.quant [] mbs
    → (text : List Bool) × (padded (slice_text h true first mbs) ≡ written_header h ++ text)
    × IsSliceText h true first mbs text
first_padded laws h first mbs is at some within each =
    let n = length (slice_text h true first mbs) in
    let zeros : List Bool = spelled (to_byte n) 0 in
    let text = mbs_text (around h first) h.quant [] mbs in (
      slice_head_text h true first ++ (text ++ zeros),
      regroup (written_header h) (slice_head_text h true first) text zeros,
      slice_spelt laws h true first mbs zeros is at some within each (zeros_are_padding n),
    )
  where
    regroup : (a b c d : List Bool) → ((a ++ b) ++ c) ++ d ≡ a ++ (b ++ (c ++ d))
    regroup a b c d = simp (append_assoc)

-- the text that is written of a slice is one of its texts
pub are_spelt : MbLaws → AreSlicesSpelt
are_spelt laws = record {
  text = slice_spelt laws;
  later = later_padded laws;
  first = first_padded laws;
  padding = zeros_are_padding;
}

-- ---- one macroblock more

pub none_writable : (h : Header) (first : ℕ) → AreWritable (around h first) h.quant [] []
unfolding AreWritable
none_writable h first = tt

more_writable : (a : Around) (quant : ℕ) (before mbs : List Mb) (m : Mb) → AreWritable a quant before mbs
    → IsWritable a.kind (quant_after_all quant mbs) (a.reaches (a.first + length (before ++ mbs))) m
    → AreWritable a quant before (mbs ++ m ∷ [])
unfolding AreWritable
more_writable a quant before [] m w one =
    (subst (λ (l : List Mb). IsWritable a.kind quant (a.reaches (a.first + length l)) m) (append-nil before) one, tt)
more_writable a quant before (n ∷ mbs) m w one =
    let e : before ++ n ∷ mbs ≡ (before ++ n ∷ []) ++ mbs = sym (append_assoc before (n ∷ []) mbs) in
    let next = subst (λ (l : List Mb). IsWritable a.kind (quant_after_all (quant_after quant n) mbs)
    (a.reaches (a.first + length l)) m) e one in
    (w.0, more_writable a (quant_after quant n) (before ++ n ∷ []) mbs m w.1 next)

one_more : (h : Header) (first : ℕ) (mbs : List Mb) (m : Mb) → AreWritable (around h first) h.quant [] mbs
    → IsWritable h.kind (quant_after_all h.quant mbs) (reach_of h.format (first + length mbs)) m
    → AreWritable (around h first) h.quant [] (mbs ++ m ∷ [])
one_more h first mbs m w one = more_writable (around h first) h.quant [] mbs m w one

-- a text with one macroblock more
pub is_one_more : IsOneMore
is_one_more = record { none = none_writable; more = one_more }
