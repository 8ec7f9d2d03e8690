-- How large the factors are, and what a pass over eight numbers gives.
use Rattle.std.proofs.Common.{◌≡◌, ℕ, ◌*◌, ◌<◌, ◌≤◌, ℤ, pos, ◌*ℤ◌, ◌≤ℤ◌, arith, ap, slice_index_or, [], ◌∷◌}
use Rattle.std.specs.Int.Signed.{le_z, le_z_yes}
use lib.Dec.{T}
use Rattle.std.proofs.lemmas.Int.{ints}
use Rattle.idct8.specs.declared.passes.Direction.{Direction}
use Rattle.idct8.specs.declared.passes.Direction.TheVariants.{Inverse, Forward}
use Rattle.idct8.specs.Sums.{sum_below}
use Rattle.idct8.specs.Basis.{basis}
use Rattle.idct8.specs.Ranges.{Within}
use Rattle.idct8.specs.Passes.{factor, pass_at}
use Rattle.idct8.proofs.Sums.{below_eight, same_sum, within_sum}
use Rattle.idct8.proofs.Wraps.{within_mul}

-- the numbers of M
near : {a b z : ℤ} → T (le_z a z) → T (le_z z b) → (a ≤ℤ z) × (z ≤ℤ b)
near p q = (le_z_yes p, le_z_yes q)

small_0 : (x : ℕ) → x < 8 → Within 2841 (basis 0 x)
unfolding basis
small_0 = below_eight (λ x. Within 2841 (basis 0 x)) (near tt tt) (near tt tt) (near tt tt) (near tt tt) (near tt tt)
    (near tt tt) (near tt tt) (near tt tt)

small_1 : (x : ℕ) → x < 8 → Within 2841 (basis 1 x)
unfolding basis
small_1 = below_eight (λ x. Within 2841 (basis 1 x)) (near tt tt) (near tt tt) (near tt tt) (near tt tt) (near tt tt)
    (near tt tt) (near tt tt) (near tt tt)

small_2 : (x : ℕ) → x < 8 → Within 2841 (basis 2 x)
unfolding basis
small_2 = below_eight (λ x. Within 2841 (basis 2 x)) (near tt tt) (near tt tt) (near tt tt) (near tt tt) (near tt tt)
    (near tt tt) (near tt tt) (near tt tt)

small_3 : (x : ℕ) → x < 8 → Within 2841 (basis 3 x)
unfolding basis
small_3 = below_eight (λ x. Within 2841 (basis 3 x)) (near tt tt) (near tt tt) (near tt tt) (near tt tt) (near tt tt)
    (near tt tt) (near tt tt) (near tt tt)

small_4 : (x : ℕ) → x < 8 → Within 2841 (basis 4 x)
unfolding basis
small_4 = below_eight (λ x. Within 2841 (basis 4 x)) (near tt tt) (near tt tt) (near tt tt) (near tt tt) (near tt tt)
    (near tt tt) (near tt tt) (near tt tt)

small_5 : (x : ℕ) → x < 8 → Within 2841 (basis 5 x)
unfolding basis
small_5 = below_eight (λ x. Within 2841 (basis 5 x)) (near tt tt) (near tt tt) (near tt tt) (near tt tt) (near tt tt)
    (near tt tt) (near tt tt) (near tt tt)

small_6 : (x : ℕ) → x < 8 → Within 2841 (basis 6 x)
unfolding basis
small_6 = below_eight (λ x. Within 2841 (basis 6 x)) (near tt tt) (near tt tt) (near tt tt) (near tt tt) (near tt tt)
    (near tt tt) (near tt tt) (near tt tt)

small_7 : (x : ℕ) → x < 8 → Within 2841 (basis 7 x)
unfolding basis
small_7 = below_eight (λ x. Within 2841 (basis 7 x)) (near tt tt) (near tt tt) (near tt tt) (near tt tt) (near tt tt)
    (near tt tt) (near tt tt) (near tt tt)

basis_small : (u x : ℕ) → u < 8 → x < 8 → Within 2841 (basis u x)
basis_small u x hu hx =
    below_eight (λ k. Within 2841 (basis k x)) (small_0 x hx) (small_1 x hx) (small_2 x hx) (small_3 x hx)
    (small_4 x hx) (small_5 x hx) (small_6 x hx) (small_7 x hx) u hu

pub factor_small : (d : Direction) (i k : ℕ) → i < 8 → k < 8 → Within 2841 (factor d i k)
factor_small Inverse i k hi hk = basis_small i k hi hk
factor_small Forward i k hi hk = basis_small k i hk hi

-- a sum of eight numbers from -b to b, each times a factor
pub within_pass : (d : Direction) (b k : ℕ) (f : ℕ → ℤ) → k < 8 → ((i : ℕ) → i < 8 → Within b (f i))
    → Within (2841 * b * 8) (sum_below 8 (λ i. factor d i k *ℤ f i))
within_pass d b k f hk h = within_sum (2841 * b) 8 (λ i. factor d i k *ℤ f i) (λ i hi. within_mul 2841 b (factor d i k)
    (f i) (factor_small d i k hi hk) (h i hi))

-- a pass over eight numbers that f gives
pub pass_of : (d : Direction) (f : ℕ → ℤ) (k : ℕ) {c0 c1 c2 c3 c4 c5 c6 c7 : ℤ} → c0 ≡ f 0 → c1 ≡ f 1 → c2 ≡ f 2
    → c3 ≡ f 3 → c4 ≡ f 4 → c5 ≡ f 5 → c6 ≡ f 6 → c7 ≡ f 7 →
    pass_at d (c0 ∷ c1 ∷ c2 ∷ c3 ∷ c4 ∷ c5 ∷ c6 ∷ c7 ∷ []) k ≡ sum_below 8 (λ i. factor d i k *ℤ f i)
pass_of d f k {c0} {c1} {c2} {c3} {c4} {c5} {c6} {c7} e0 e1 e2 e3 e4 e5 e6 e7 =
    same_sum 8 _ _
    (below_eight (λ i. factor d i k *ℤ slice_index_or (c0 ∷ c1 ∷ c2 ∷ c3 ∷ c4 ∷ c5 ∷ c6 ∷ c7 ∷ []) i (pos 0)
    ≡ factor d i k *ℤ f i)
    (ap (λ z. factor d 0 k *ℤ z) e0) (ap (λ z. factor d 1 k *ℤ z) e1) (ap (λ z. factor d 2 k *ℤ z) e2)
    (ap (λ z. factor d 3 k *ℤ z) e3)
    (ap (λ z. factor d 4 k *ℤ z) e4) (ap (λ z. factor d 5 k *ℤ z) e5) (ap (λ z. factor d 6 k *ℤ z) e6)
    (ap (λ z. factor d 7 k *ℤ z) e7))

-- a bound of a number is one of its equal, and a larger one too
pub within_same : (m n : ℕ) {z e : ℤ} → m ≤ n → z ≡ e → Within m e → Within n z
within_same m n {z} {e} h q w = omega (arith, ints)
