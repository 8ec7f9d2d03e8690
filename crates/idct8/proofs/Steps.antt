-- The two passes together.
use Rattle.std.proofs.Common.{◌≡◌, ℕ, zero, suc, ◌<◌, ℤ, pos, ◌+ℤ◌, ◌*ℤ◌, arith, refl, ap, ◌∙◌, sym, List}
use Rattle.std.proofs.lemmas.Int.{ints}
use Rattle.std.proofs.Math.IntN.{*ℤ_comm}
use Rattle.idct8.specs.declared.passes.Direction.{Direction}
use Rattle.idct8.specs.Sums.{sum_below}
use Rattle.idct8.specs.Transform.{entry, rounded}
use Rattle.idct8.specs.Passes.{factor, pass_at, row_sums, transform_at}
use Rattle.idct8.specs.Vectors.{lane}
use Rattle.idct8.proofs.Sums.{same_sum, factor_sum, times_sum, times_assoc}

-- two sums of as many terms
four_turned : (a b x y : ℤ) → a +ℤ b +ℤ (x +ℤ y) ≡ a +ℤ x +ℤ (b +ℤ y)
four_turned a b x y = omega (arith, ints)

pub sums_added : (n : ℕ) (f g : ℕ → ℤ) → sum_below n f +ℤ sum_below n g ≡ sum_below n (λ k. f k +ℤ g k)
unfolding sum_below
sums_added zero f g = refl
sums_added (suc n) f g = four_turned (sum_below n f) (f n) (sum_below n g) (g n)
    ∙ ap (λ s. s +ℤ (f n +ℤ g n)) (sums_added n f g)

zeros : (n : ℕ) → sum_below n (λ k. pos 0) ≡ pos 0
unfolding sum_below
zeros zero = refl
zeros (suc n) = ap (λ s. s +ℤ pos 0) (zeros n)

-- a double sum either way round
pub sums_turned : (m n : ℕ) (f : ℕ → ℕ → ℤ) → sum_below m (λ i. sum_below n (λ j. f i j))
    ≡ sum_below n (λ j. sum_below m (λ i. f i j))
unfolding sum_below
sums_turned zero n f = sym (zeros n)
sums_turned (suc m) n f = ap (λ s. s +ℤ sum_below n (λ j. f m j)) (sums_turned m n f)
    ∙ sums_added n (λ j. sum_below m (λ i. f i j)) (λ j. f m j)

-- equal parts are rounded to the same
pub same_rounded : {h l h' l' : ℤ} → h ≡ h' → l ≡ l' → rounded (pos 8192 *ℤ h +ℤ l) ≡ rounded (pos 8192 *ℤ h' +ℤ l')
same_rounded e f = cc (e, f)

-- a pass over sums in two parts
pub passes_of_parts : (d : Direction) (h l : List ℤ) (f : ℕ → ℤ) (r : ℕ)
    → ((j : ℕ) → j < 8 → f j ≡ pos 8192 *ℤ lane h j +ℤ lane l j) →
    pos 8192 *ℤ pass_at d h r +ℤ pass_at d l r ≡ sum_below 8 (λ j. factor d j r *ℤ f j)
passes_of_parts d h l f r e =
    ap (λ s. s +ℤ pass_at d l r) (factor_sum (pos 8192) 8 (λ j. factor d j r *ℤ lane h j))
    ∙ sums_added 8 (λ j. pos 8192 *ℤ (factor d j r *ℤ lane h j)) (λ j. factor d j r *ℤ lane l j)
    ∙ same_sum 8 _ _ (λ j hj. one_term (factor d j r) (lane h j) (lane l j)
    ∙ ap (λ z. factor d j r *ℤ z) (sym (e j hj)))
  where
    one_term : (m a b : ℤ) → pos 8192 *ℤ (m *ℤ a) +ℤ m *ℤ b ≡ m *ℤ (pos 8192 *ℤ a +ℤ b)
    one_term m a b = ap (λ s. s +ℤ m *ℤ b) (times_assoc (pos 8192) m a ∙ ap (λ s. s *ℤ a) (*ℤ_comm (pos 8192) m)
        ∙ sym (times_assoc m (pos 8192) a)) ∙ sym (times_sum m (pos 8192 *ℤ a) b)

-- the two passes are the double sum
pub passes_are : (d : Direction) (c : List ℤ) (f : ℕ → ℤ) (r k : ℕ) → ((j : ℕ) → j < 8 → f j ≡ row_sums d c j k) →
    rounded (sum_below 8 (λ j. factor d j r *ℤ f j)) ≡ transform_at d c r k
passes_are d c f r k sums =
    ap rounded
    (same_sum 8 (λ j. factor d j r *ℤ f j) (λ j. sum_below 8 (λ i. factor d i k *ℤ factor d j r *ℤ entry c j i))
    (λ j hj. ap (λ z. factor d j r *ℤ z) (sums j hj)
    ∙ factor_sum (factor d j r) 8 (λ i. factor d i k *ℤ entry c j i)
    ∙ same_sum 8 _ _ (λ i hi. times_assoc (factor d j r) (factor d i k) (entry c j i)
    ∙ ap (λ z. z *ℤ entry c j i) (*ℤ_comm (factor d j r) (factor d i k))))
    ∙ sums_turned 8 8 (λ j i. factor d i k *ℤ factor d j r *ℤ entry c j i))

-- the sums of a row
pub row_terms : (d : Direction) (v c : List ℤ) (j k : ℕ) → ((i : ℕ) → i < 8 → lane v i ≡ entry c j i)
    → pass_at d v k ≡ row_sums d c j k
row_terms d v c j k e = same_sum 8 (λ i. factor d i k *ℤ lane v i) (λ i. factor d i k *ℤ entry c j i)
    (λ i hi. ap (λ z. factor d i k *ℤ z) (e i hi))

-- a pass over numbers that are those of a row
pub same_pass : (d : Direction) (u v : List ℤ) (k : ℕ) → ((i : ℕ) → i < 8 → lane u i ≡ lane v i)
    → pass_at d u k ≡ pass_at d v k
same_pass d u v k e = same_sum 8 (λ i. factor d i k *ℤ lane u i) (λ i. factor d i k *ℤ lane v i)
    (λ i hi. ap (λ z. factor d i k *ℤ z) (e i hi))
