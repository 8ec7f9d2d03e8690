-- The levels of a block as bits.
use Rattle.std.proofs.Common.{◌≡◌, ◌≢◌, ◌≤◌, ℕ, zero, suc, ◌+◌, ◌-◌, ◌*◌, ◌^◌, ◌%◌, ◌<◌, Bool, true, false, cond, List, [], ◌∷◌, get_or, refl, sym, ap, ◌∙◌, arith, eqb, not, w16, w64, of_z}
use Rattle.std.specs.Prelude.{ℤ, pos, negsuc, map}
use Rattle.std.specs.Simd.Lanes.{mask_l}
use Rattle.std.proofs.lemmas.Bool.{ne_eqb}
use Rattle.std.proofs.lemmas.Simd.{bit_mask_l}
use Rattle.std.proofs.lemmas.Bool.Decides.{Decides-int_eq}
use Rattle.std.proofs.lemmas.Nat.{and_le_l}
use Rattle.std.proofs.lemmas.Nat.Bits.{bit_at-trailing_zeros, bit_at_clear_same, bit_at_clear_other}
use Rattle.std.specs.Int.{bit_at, bit_not, trailing_zeros}
use lib.Signed.{mag}
use mir.Val.{Val}
use denote.Signed.{SInt}
use denote.Array.{each}
use denote.Shadow.{shadow}
use Rattle.h263_types.specs.Marks.{is_zero, marks_of, EachIsMarked, without, IsMark, HasLowest}

zero_is : (z : ℤ) → is_zero z ≡ true → z ≡ pos 0
zero_is z e = (Decides-int_eq z (pos 0)).0 e

not_zero : (n : ℕ) → is_zero (pos (suc n)) ≡ false
not_zero n = at (is_zero (pos (suc n))) refl
  where
    at : (t : Bool) → is_zero (pos (suc n)) ≡ t → t ≡ false
    at true e = let same : pos (suc n) ≡ pos 0 = zero_is (pos (suc n)) e in cc
    at false e = refl

-- Owning an array tells of each level that it fits 16 bits: such a level is 0 exactly where its bits are.
zero_bits : (z : ℤ) → mag z < 2 ^ 15 → eqb (of_z w16 z) 0 ≡ is_zero z
zero_bits (pos zero) small = refl
zero_bits (pos (suc n)) small = ne_eqb (suc n) 0 (λ e. omega (arith, e)) ∙ sym (not_zero n)
zero_bits (negsuc n) small = ne_eqb (2 ^ 16 - suc n) 0 (λ e. let k : n < 2 ^ 15 = small in omega (arith, e, k))

-- so the bits of an array of levels have its marks
pub marks_are : (levels : List ℤ) (us : List Val) → shadow (each ℤ (SInt w16).own_val levels us)
    → mask_l (map (λ x. not (eqb x 0)) (map (of_z w16) levels)) ≡ marks_of levels
unfolding marks_of
marks_are [] us h = refl
marks_are (z ∷ levels) [] h = absurd h
marks_are (z ∷ levels) (u ∷ us) h = rw (zero_bits z h.0.1) (ap (λ n. cond (not (is_zero z)) 1 0 + 2 * n)
    (marks_are levels us h.1))

-- a bit of the marks is that of its level
turned : (b : Bool) → ◌≡◌ {A = ℕ} (cond (not b) 1 0) (cond b 0 1)
turned true = refl
turned false = refl

mark_at : (levels : List ℤ) (k : ℕ) → get_or (map (λ z. not (is_zero z)) levels) k false
    ≡ not (is_zero (get_or levels k (pos 0)))
mark_at [] k = refl
mark_at (z ∷ levels) zero = refl
mark_at (z ∷ levels) (suc k) = mark_at levels k

pub each_is_marked : EachIsMarked
unfolding marks_of
each_is_marked levels k =
    bit_mask_l (map (λ z. not (is_zero z)) levels) k
    ∙ ap (λ (b : Bool). cond b 1 0) (mark_at levels k)
    ∙ turned (is_zero (get_or levels k (pos 0)))

-- a number with a mark isn't one without it
one_less : (bit : ℕ) → bit ≡ 1 → bit ≡ 0 → ⊥
one_less bit set none = absurd (omega arith)

is_mark : (marks k : ℕ) → k < 64 → bit_at marks k ≡ 1 → IsMark marks k
is_mark marks k less set =
    let gone = bit_at_clear_same w64 marks k less in
    let most : without marks k ≤ marks = and_le_l marks (bit_not w64 (1 * 2 ^ k % 2 ^ 64)) in
    let other : without marks k ≢ marks = λ e. one_less (bit_at marks k) set (ap (λ (n : ℕ). bit_at n k) (sym e)
    ∙ gone) in
    record { below = less; set = set; gone = gone; others = bit_at_clear_other w64 marks k less; fewer = omega arith }

pub has_lowest : HasLowest
has_lowest marks fits some =
    let mark = bit_at-trailing_zeros w64 marks (omega arith) fits in
    is_mark marks (trailing_zeros w64 marks) mark.0 mark.1
