-- The first value of an intra block, 8 times INTRADC, adds the same whole number to all that the inverse
-- transform gives.
use Rattle.std.proofs.Common.{◌≡◌, ℕ, zero, suc, ◌+◌, ◌*◌, ◌<◌, ◌≤◌, ℤ, pos, ◌+ℤ◌, ◌*ℤ◌, ◌≤ℤ◌, List, slice_index_or, arith, refl, ap, ◌∙◌}
use Rattle.std.specs.Int.{int_shr}
use Rattle.std.proofs.lemmas.Int.{ints}
use Rattle.idct8.specs.Basis.{basis}
use Rattle.idct8.specs.Sums.{sum_below}
use Rattle.idct8.specs.Transform.{entry, inverse_at, rounded}
use Rattle.idct8.proofs.Shifts.{all_bits}
use Rattle.idct8.proofs.Sums.{below_eight, same_sum}
use Rattle.idct8.proofs.Zeros.{times_zero}

-- two sums of which only the first terms differ
first_differs : (n : ℕ) (f g : ℕ → ℤ) (e : ℤ) → f 0 ≡ e +ℤ g 0 → ((k : ℕ) → 1 ≤ k → k < suc n → f k ≡ g k)
    → sum_below (suc n) f ≡ e +ℤ sum_below (suc n) g
unfolding sum_below
first_differs zero f g e first others = omega (arith, ints, first)
first_differs (suc n) f g e first others =
    let before : sum_below (suc n) f ≡ e +ℤ sum_below (suc n) g = first_differs n f g e first
    (λ k some lt. others k some (omega (arith, lt))) in
    let last : f (suc n) ≡ g (suc n) = others (suc n) (omega arith) (omega arith) in
    let step : sum_below (suc n) f +ℤ f (suc n) ≡ e +ℤ (sum_below (suc n) g +ℤ g (suc n)) = omega (
      arith,
      ints,
      before,
      last,
    ) in
    step

pub first_row : (x : ℕ) → x < 8 → basis 0 x ≡ pos 2048
unfolding basis
first_row = below_eight (λ x. basis 0 x ≡ pos 2048) refl refl refl refl refl refl refl refl

-- a multiple of what rounding divides by
shifted : (dc a b w : ℤ) → (pos 33554432 *ℤ a) ≤ℤ (pos 33554432 *ℤ dc +ℤ w)
    → (pos 33554432 *ℤ dc +ℤ w) ≤ℤ (pos 33554432 *ℤ a +ℤ pos 33554431) →
    (pos 33554432 *ℤ b) ≤ℤ w → w ≤ℤ (pos 33554432 *ℤ b +ℤ pos 33554431) → a ≡ dc +ℤ b
shifted dc a b w h i j k = omega (arith, ints)

apart_regrouped : (dc z : ℤ) → pos 33554432 *ℤ dc +ℤ z +ℤ pos 16777216 ≡ pos 33554432 *ℤ dc +ℤ (z +ℤ pos 16777216)
apart_regrouped dc z = omega (arith, ints)

rounded_apart : (dc z : ℤ) → rounded (pos 33554432 *ℤ dc +ℤ z) ≡ dc +ℤ rounded z
rounded_apart dc z =
    let w = z +ℤ pos 16777216 in
    let both = all_bits (pos 33554432 *ℤ dc +ℤ w) in
    let own = all_bits w in
    ap (λ (y : ℤ). int_shr y 25) (apart_regrouped dc z)
    ∙ shifted dc (int_shr (pos 33554432 *ℤ dc +ℤ w) 25) (int_shr w 25) w both.0 both.1 own.0 own.1

first_term : (a b v o dc : ℤ) → a ≡ pos 2048 → b ≡ pos 2048 → v ≡ pos 8 *ℤ dc → o ≡ pos 0
    → a *ℤ b *ℤ v ≡ pos 33554432 *ℤ dc +ℤ a *ℤ b *ℤ o
first_term a b v o dc ea eb ev eo =
    let left : a *ℤ b *ℤ v ≡ pos 2048 *ℤ pos 2048 *ℤ (pos 8 *ℤ dc) = cc (ea, eb, ev) in
    let right : a *ℤ b *ℤ o ≡ pos 0 = times_zero (a *ℤ b) o eo in
    omega (arith, ints, left, right)

pub first_apart : (values others : List ℤ) (dc : ℤ) → slice_index_or values 0 (pos 0) ≡ pos 8 *ℤ dc
    → slice_index_or others 0 (pos 0) ≡ pos 0 →
    ((at : ℕ) → 1 ≤ at → at < 64 → slice_index_or values at (pos 0) ≡ slice_index_or others at (pos 0)) → (y x : ℕ)
    → y < 8 → x < 8 → inverse_at values y x ≡ dc +ℤ inverse_at others y x
first_apart values others dc first none same y x hy hx =
    let term = λ (c : List ℤ) (u v : ℕ). basis u x *ℤ basis v y *ℤ entry c v u in
    let later = λ (u v : ℕ) (some : 1 ≤ 8 * v + u) (less : 8 * v + u < 64). ap (λ (z : ℤ). basis u x *ℤ basis v y *ℤ z)
    (same (8 * v + u) some less) in
    let inner : sum_below 8 (term values 0) ≡ pos 33554432 *ℤ dc +ℤ sum_below 8 (term others 0) =
    first_differs 7 (term values 0) (term others 0) (pos 33554432 *ℤ dc)
    (first_term (basis 0 x) (basis 0 y) (entry values 0 0) (entry others 0 0) dc (first_row x hx)
    (first_row y hy) first none)
    (λ v some less. later 0 v (omega (arith, some)) (omega (arith, less))) in
    let outer : sum_below 8 (λ u. sum_below 8 (term values u))
    ≡ pos 33554432 *ℤ dc +ℤ sum_below 8 (λ u. sum_below 8 (term others u)) =
    first_differs 7 (λ u. sum_below 8 (term values u)) (λ u. sum_below 8 (term others u)) (pos 33554432 *ℤ dc) inner
    (λ u some less. same_sum 8 (term values u) (term others u) (λ v hv. later u v (omega (arith, some))
    (omega (arith, less, hv)))) in
    ap rounded outer ∙ rounded_apart dc (sum_below 8 (λ u. sum_below 8 (term others u)))
