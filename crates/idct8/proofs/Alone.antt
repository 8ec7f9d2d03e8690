-- Blocks with values in one row alone, or in one column alone. The basis of frequency 0 is 2048 everywhere,
-- so the other pass
-- takes each sum of the line 2048 times: what the transform gives is the same in all rows, or in all columns.
use Rattle.std.proofs.Common.{◌≡◌, ℕ, zero, suc, ◌+◌, ◌*◌, ◌<◌, ◌≤◌, ◌^◌, ℤ, pos, negsuc, ◌+ℤ◌, ◌*ℤ◌, ◌≤ℤ◌, List, map, replicate, slice_index_or, arith, lit≤, refl, ap, sym, ◌∙◌, w32, of_z}
use lib.Lanes.{zip2}
use Rattle.std.specs.Int.{int_shr}
use Rattle.std.proofs.lemmas.Int.{ints}
use Rattle.std.proofs.Math.IntN.{*ℤ_comm}
use Rattle.idct8.specs.Sums.{sum_below}
use Rattle.idct8.specs.Ranges.{Within}
use Rattle.idct8.specs.Transform.{entry, inverse_at, rounded}
use Rattle.idct8.specs.Vectors.{lane, EightWithin}
use Rattle.idct8.specs.Passes.{factor, row_sums}
use Rattle.idct8.specs.declared.passes.Direction.TheVariants.{Inverse}
use Rattle.idct8.proofs.First.{first_row}
use Rattle.idct8.proofs.Shifts.{all_bits, down, down_words, splat_words}
use Rattle.idct8.proofs.Steps.{passes_are}
use Rattle.idct8.proofs.Sums.{factor_sum, same_sum, times_assoc}
use Rattle.idct8.proofs.Vectors.{Words, own_words, plus, sum_words}
use Rattle.idct8.proofs.Zeros.{sums_of_zeros, times_zero}

-- a sum whose terms are 0 but for the first
first_alone : (n : ℕ) (f : ℕ → ℤ) → ((k : ℕ) → 1 ≤ k → k < suc n → f k ≡ pos 0) → sum_below (suc n) f ≡ f 0
unfolding sum_below
first_alone zero f h = omega (arith, ints)
first_alone (suc n) f h =
    let before : sum_below (suc n) f ≡ f 0 = first_alone n f (λ k some lt. h k some (omega (arith, lt))) in
    let last : f (suc n) ≡ pos 0 = h (suc n) (omega arith) (omega arith) in
    let step : sum_below (suc n) f +ℤ f (suc n) ≡ f 0 = omega (arith, ints, before, last) in
    step

-- ---- the two kinds of lines

-- values in the first row alone: the pass down takes each sum of this row 2048 times
pub row_alone : (c : List ℤ) → ((at : ℕ) → 8 ≤ at → at < 64 → slice_index_or c at (pos 0) ≡ pos 0) → (r k : ℕ) → r < 8
    → k < 8 → rounded (pos 2048 *ℤ row_sums Inverse c 0 k) ≡ inverse_at c r k
row_alone c zeros r k hr hk =
    let f = λ (j : ℕ). row_sums Inverse c j k in
    let first : sum_below 8 (λ j. factor Inverse j r *ℤ f j) ≡ factor Inverse 0 r *ℤ f 0 =
    first_alone 7 (λ j. factor Inverse j r *ℤ f j)
    (λ j some less. times_zero (factor Inverse j r) (f j)
    (sums_of_zeros c j k (λ i hi. zeros (8 * j + i) (omega (arith, some)) (omega (arith, less, hi))))) in
    ap (λ (m : ℤ). rounded (m *ℤ f 0)) (sym (first_row r hr)) ∙ ap rounded (sym first)
    ∙ passes_are Inverse c f r k (λ j hj. refl)

past_factor : (m z : ℤ) → pos 2048 *ℤ (m *ℤ z) ≡ m *ℤ (pos 2048 *ℤ z)
past_factor m z = times_assoc (pos 2048) m z ∙ ap (λ (s : ℤ). s *ℤ z) (*ℤ_comm (pos 2048) m)
    ∙ sym (times_assoc m (pos 2048) z)

-- values in the first column alone: the pass across takes each of them 2048 times, wherever in its row
pub column_alone : (c : List ℤ) → ((j i : ℕ) → j < 8 → 1 ≤ i → i < 8 → entry c j i ≡ pos 0) → (r k : ℕ) → k < 8
    → rounded (pos 2048 *ℤ sum_below 8 (λ j. factor Inverse j r *ℤ entry c j 0)) ≡ inverse_at c r k
column_alone c zeros r k hk =
    let f = λ (j : ℕ). pos 2048 *ℤ entry c j 0 in
    let row_is = λ (j : ℕ) (hj : j < 8). first_alone 7 (λ i. factor Inverse i k *ℤ entry c j i)
    (λ i some less. times_zero (factor Inverse i k) (entry c j i) (zeros j i hj some (omega (arith, less)))) in
    let sums = λ (j : ℕ) (hj : j < 8). ap (λ (m : ℤ). m *ℤ entry c j 0) (sym (first_row k hk)) ∙ sym (row_is j hj) in
    ap rounded
    (factor_sum (pos 2048) 8 (λ j. factor Inverse j r *ℤ entry c j 0)
    ∙ same_sum 8 (λ j. pos 2048 *ℤ (factor Inverse j r *ℤ entry c j 0)) (λ j. factor Inverse j r *ℤ f j)
    (λ j hj. past_factor (factor Inverse j r) (entry c j 0)))
    ∙ passes_are Inverse c f r k sums

-- ---- rounding

-- a number is between the multiples of 2^14
line_bits : (z : ℤ) → ((pos 16384 *ℤ int_shr z 14) ≤ℤ z) × (z ≤ℤ (pos 16384 *ℤ int_shr z 14 +ℤ pos 16383))
line_bits (pos n) = (omega (arith, ints), omega (arith, ints))
line_bits (negsuc n) = (omega (arith, ints), omega (arith, ints))

same_quotient : (s r q : ℤ) → (pos 16384 *ℤ r) ≤ℤ (s +ℤ pos 8192) → (s +ℤ pos 8192) ≤ℤ (pos 16384 *ℤ r +ℤ pos 16383) →
    (pos 33554432 *ℤ q) ≤ℤ (pos 2048 *ℤ s +ℤ pos 16777216)
    → (pos 2048 *ℤ s +ℤ pos 16777216) ≤ℤ (pos 33554432 *ℤ q +ℤ pos 33554431) → r ≡ q
same_quotient s r q a b d e = omega (arith, ints)

-- 2048 times a sum is rounded by 2^25 as the sum is by 2^14
pub line_rounded : (s : ℤ) → int_shr (s +ℤ pos 8192) 14 ≡ rounded (pos 2048 *ℤ s)
line_rounded s =
    let a = line_bits (s +ℤ pos 8192) in
    let d = all_bits (pos 2048 *ℤ s +ℤ pos 16777216) in
    same_quotient s (int_shr (s +ℤ pos 8192) 14) (int_shr (pos 2048 *ℤ s +ℤ pos 16777216) 25) a.0 a.1 d.0 d.1

half_small : Within 8192 (pos 8192)
half_small = (omega (arith, ints), omega (arith, ints))

quotient_small : (z : ℤ) → Within (2 ^ 28 + 8192) z → Within 32000 (int_shr z 14)
quotient_small z h = omega (arith, ints, line_bits z)

pub line_words : (v : List ℤ) → EightWithin (2 ^ 28) v
    → Words w32 32000 (zip2 down (zip2 plus (map (of_z w32) v) (replicate 8 8192)) (replicate 8 14))
    (λ i. int_shr (lane v i +ℤ pos 8192) 14)
line_words v h = down_words 14 32000 (lit≤ tt) quotient_small (sum_words (lit≤ tt) (own_words w32 (2 ^ 28) v h)
    (splat_words w32 8192 (pos 8192) half_small))
