-- Sums of signed terms.
use Rattle.std.proofs.Common.{◌≡◌, ℕ, ◌+◌, ◌*◌, ◌<◌, zero, suc, ℤ, ◌+ℤ◌, ◌*ℤ◌, arith, refl, ap, ◌∙◌}
use borrow.Author.Differences.{up, down, product_is}
use Rattle.std.proofs.lemmas.Int.{ints}
use Rattle.idct8.specs.Sums.{sum_below}
use Rattle.idct8.specs.Ranges.{Within}

-- a fact of each number below 8
pub below_eight : (P : ℕ → Type 0) → P 0 → P 1 → P 2 → P 3 → P 4 → P 5 → P 6 → P 7 → (x : ℕ) → x < 8 → P x
below_eight P p0 p1 p2 p3 p4 p5 p6 p7 zero h = p0
below_eight P p0 p1 p2 p3 p4 p5 p6 p7 (suc zero) h = p1
below_eight P p0 p1 p2 p3 p4 p5 p6 p7 (suc (suc zero)) h = p2
below_eight P p0 p1 p2 p3 p4 p5 p6 p7 (suc (suc (suc zero))) h = p3
below_eight P p0 p1 p2 p3 p4 p5 p6 p7 (suc (suc (suc (suc zero)))) h = p4
below_eight P p0 p1 p2 p3 p4 p5 p6 p7 (suc (suc (suc (suc (suc zero))))) h = p5
below_eight P p0 p1 p2 p3 p4 p5 p6 p7 (suc (suc (suc (suc (suc (suc zero)))))) h = p6
below_eight P p0 p1 p2 p3 p4 p5 p6 p7 (suc (suc (suc (suc (suc (suc (suc zero))))))) h = p7
below_eight P p0 p1 p2 p3 p4 p5 p6 p7 (suc (suc (suc (suc (suc (suc (suc (suc k)))))))) h = absurd (omega arith)

-- a sum of n numbers from -b to b
pub within_sum : (b n : ℕ) (f : ℕ → ℤ) → ((k : ℕ) → k < n → Within b (f k)) → Within (b * n) (sum_below n f)
unfolding sum_below
within_sum b zero f h = omega (arith, ints)
within_sum b (suc n) f h =
    let less : Within (b * n) (sum_below n f) = within_sum b n f (λ k lt. h k (omega arith)) in
    let last : Within b (f n) = h n (omega arith) in
    omega (arith, ints)

-- equal terms, equal sums
pub same_sum : (n : ℕ) (f g : ℕ → ℤ) → ((k : ℕ) → k < n → f k ≡ g k) → sum_below n f ≡ sum_below n g
unfolding sum_below
same_sum zero f g h = refl
same_sum (suc n) f g h = cc (same_sum n f g (λ k lt. h k (omega arith)), h n (omega arith))

-- a factor goes into a sum
pub times_sum : (m a b : ℤ) → m *ℤ (a +ℤ b) ≡ m *ℤ a +ℤ m *ℤ b
times_sum m a b =
    let e : up (a +ℤ b) + (down a + down b) ≡ down (a +ℤ b) + (up a + up b) = omega (arith, ints) in
    omega (arith, ints, ap (λ k. up m * k) e, ap (λ k. down m * k) e)

-- three factors
pub times_assoc : (a b c : ℤ) → a *ℤ (b *ℤ c) ≡ a *ℤ b *ℤ c
times_assoc a b c =
    omega (
      arith,
      ints,
      ap (λ k. up a * k) (product_is b c).0,
      ap (λ k. down a * k) (product_is b c).0,
      ap (λ k. up a * k) (product_is b c).1,
      ap (λ k. down a * k) (product_is b c).1,
      ap (λ k. k * up c) (product_is a b).0,
      ap (λ k. k * down c) (product_is a b).0,
      ap (λ k. k * up c) (product_is a b).1,
      ap (λ k. k * down c) (product_is a b).1,
    )

-- a factor of a sum is one of each part
pub factor_sum : (m : ℤ) (n : ℕ) (f : ℕ → ℤ) → m *ℤ sum_below n f ≡ sum_below n (λ k. m *ℤ f k)
unfolding sum_below
factor_sum m zero f = omega (arith, ints)
factor_sum m (suc n) f = times_sum m (sum_below n f) (f n) ∙ ap (λ s. s +ℤ m *ℤ f n) (factor_sum m n f)
