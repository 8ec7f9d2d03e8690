-- A transform of zeros.
use Rattle.std.proofs.Common.{◌≡◌, ℕ, ◌+◌, ◌*◌, ◌<◌, zero, suc, ℤ, pos, ◌*ℤ◌, List, slice_index_or, arith, refl, ap, ◌∙◌}
use Rattle.std.proofs.lemmas.Int.{ints}
use Rattle.idct8.specs.Sums.{sum_below}
use Rattle.idct8.specs.Basis.{basis}
use Rattle.idct8.specs.Transform.{entry, inverse_at, rounded}
use Rattle.idct8.specs.Passes.{factor, row_sums}
use Rattle.idct8.specs.declared.passes.Direction.TheVariants.{Inverse}

-- a sum of zeros
pub zero_sum : (n : ℕ) (f : ℕ → ℤ) → ((k : ℕ) → k < n → f k ≡ pos 0) → sum_below n f ≡ pos 0
unfolding sum_below
zero_sum zero f h = refl
zero_sum (suc n) f h =
    let before : sum_below n f ≡ pos 0 = zero_sum n f (λ k lt. h k (omega arith)) in
    let last : f n ≡ pos 0 = h n (omega arith) in
    omega (arith, ints)

-- a multiple of 0
pub times_zero : (m z : ℤ) → z ≡ pos 0 → m *ℤ z ≡ pos 0
times_zero m z h = ap (λ (k : ℤ). m *ℤ k) h ∙ omega (arith, ints)

pub inverse_of_zeros : (values : List ℤ) → ((at : ℕ) → at < 64 → slice_index_or values at (pos 0) ≡ pos 0) → (y x : ℕ)
    → inverse_at values y x ≡ pos 0
inverse_of_zeros values h y x =
    let terms = λ (u v : ℕ). basis u x *ℤ basis v y *ℤ entry values v u in
    let inner = λ (u : ℕ) (hu : u < 8). zero_sum 8 (terms u) (λ v hv. times_zero (basis u x *ℤ basis v y)
    (entry values v u) (h (8 * v + u) (omega arith))) in
    ap rounded (zero_sum 8 (λ u. sum_below 8 (terms u)) inner)

-- the sums of a row of zeros
pub sums_of_zeros : (block : List ℤ) (j k : ℕ) → ((i : ℕ) → i < 8 → entry block j i ≡ pos 0)
    → row_sums Inverse block j k ≡ pos 0
sums_of_zeros block j k h = zero_sum 8 (λ i. factor Inverse i k *ℤ entry block j i)
    (λ i hi. times_zero (factor Inverse i k) (entry block j i) (h i hi))
