-- Sixteen vectors beside each other, by the sums of areas.
use Rattle.std.proofs.Common.{◌≡◌, ◌≢◌, ◌⊎◌, inl, inr, sym, ap, subst, ◌∙◌, arith, ℕ, ◌+◌, ◌-◌, ◌*◌, ◌/◌, ◌%◌, ◌<◌, ◌≤◌, List, false, pos, ◌-ℤ◌, ◌≤ℤ◌, ◌<ℤ◌}
use Rattle.std.proofs.lemmas.Int.{ints}
use Rattle.std.specs.Int.{int_shr}
use Rattle.std.proofs.lemmas.Bool.{cases_order}
use Rattle.sad_kernel.specs.Differences.{differences}
use Rattle.h263_types.specs.declared.vector.Vector.{Vector}
use Rattle.h263_types.specs.Sizes.{columns_of}
use Rattle.h263_types.specs.Vectors.{whole_place}
use Rattle.h263_planes.specs.Picture.{Picture}
use Rattle.h263_planes.specs.Samples.{sample_at}
use Rattle.h263_planes.specs.declared.Plane.TheVariants.{Y}
use Rattle.motion_search.specs.declared.candidate.Candidate.{Candidate}
use Rattle.motion_search.specs.Order.{before}
use Rattle.motion_search.specs.Cost.{square, difference_of, candidate_of}
use Rattle.motion_search.specs.Vectors.{zero_vector, whole_at, whole_component}
use Rattle.motion_search.specs.Areas.{samples_from}
use Rattle.motion_search.proofs.Blocks.{costing, is_square, length-square, get_or-square}
use Rattle.motion_search.proofs.Leads.{not_before_by_differences}
use Rattle.motion_search.proofs.Places.{whole_predicts}
use Rattle.motion_search.proofs.Squares.{at_is_even}

-- a vector of whole samples moves a place by whole samples
half_of_even : (a b : ℕ) → int_shr (pos (2 * a) -ℤ pos (2 * b)) 1 ≡ pos a -ℤ pos b
half_of_even a b = grind (arith, ints)

pub next_place : (at x radius k i : ℕ) → pos x ≡ whole_place at (whole_component radius k)
    → pos (x + i) ≡ whole_place at (whole_component radius (k + i))
next_place at x radius k i h = omega (arith, ints, h, half_of_even k radius, half_of_even (k + i) radius)

-- a row of the square leads no more than the radius up or down
pub row_near : (top y radius row : ℕ) → pos y ≡ whole_place top (whole_component radius row) → row ≤ 2 * radius
    → (top ≤ y + radius) × (y ≤ top + radius)
row_near top y radius row h few = (
  omega (arith, ints, h, half_of_even row radius, few),
  omega (arith, ints, h, half_of_even row radius, few),
)

-- where a row of the square leads to, by whole samples
pub place_adds : (top y radius row : ℕ) → pos y ≡ whole_place top (whole_component radius row) → y + radius ≡ top + row
place_adds top y radius row h = omega (arith, ints, h, half_of_even row radius)

pub place_of_row : (top radius row : ℕ) → pos 0 ≤ℤ whole_place top (whole_component radius row)
    → pos (top + row - radius) ≡ whole_place top (whole_component radius row)
place_of_row top radius row h = omega (arith, ints, h, half_of_even row radius)

-- a vector that leaves more differences than the best one costs doesn't come before it
dear_not_before : (block : List ℕ) (p : Picture) (mb n : ℕ) (v : Vector) (best : Candidate)
    → n ≡ difference_of block p mb 0 v → best.cost <ℤ pos n →
    before (candidate_of block p mb 0 zero_vector) best ≡ false → before (candidate_of block p mb 0 v) best ≡ false
dear_not_before block p mb n v best same dear zero =
    subst (λ (k : ℕ). before (costing v k) best ≡ false) same
    (not_before_by_differences v n best dear
    (λ e. subst (λ (k : ℕ). before (costing v k) best ≡ false) (sym same)
    (subst (λ (w : Vector). before (candidate_of block p mb 0 w) best ≡ false) (sym e) zero)))

-- the one of sixteen in column i, whose quarters tell enough
pub unmarked_not_before : (block : List ℕ) (p : Picture) (mb radius left top x y column row i most : ℕ)
    (best : Candidate) →
    left ≡ 16 * (mb % columns_of p.format) → top ≡ 16 * (mb / columns_of p.format) →
    pos x ≡ whole_place left (whole_component radius column) → pos y ≡ whole_place top (whole_component radius row) →
    best.cost ≤ℤ pos most → most < differences block (square (λ k j. samples_from p x (i + k) (y + j))) →
    before (candidate_of block p mb 0 zero_vector) best ≡ false
    → before (candidate_of block p mb 0 (whole_at radius (column + i) row)) best ≡ false
unmarked_not_before block p mb radius left top x y column row i most best at_left at_top ex ey cheap dear zero =
    let v = whole_at radius (column + i) row in
    let seen = λ (k j : ℕ). samples_from p x (i + k) (y + j) in
    let there = λ (k j : ℕ). sample_at p Y (x + i + k) (y + j) in
    let same : square seen ≡ square there =
    is_square (square seen) there (length-square seen) (λ j k hj hk. get_or-square seen j k hj hk
    ∙ (let e : x + (i + k) ≡ x + i + k = omega arith in ap (λ (m : ℕ). sample_at p Y m (y + j)) e)) in
    dear_not_before block p mb (differences block (square seen)) v best
    (ap (differences block) same
    ∙ whole_predicts block p mb 0 (x + i) y v (at_is_even radius (column + i) row)
    (subst (λ (k : ℕ). pos (x + i) ≡ whole_place k (whole_component radius (column + i))) at_left
    (next_place left x radius column i ex))
    (subst (λ (k : ℕ). pos y ≡ whole_place k (whole_component radius row)) at_top ey))
    (omega (arith, ints, cheap, dear)) zero

-- what is true of one number and of all others
pub marked_or_kept : (P : ℕ → Type 0) (k i : ℕ) → P k → (i ≢ k → P i) → P i
marked_or_kept P k i here others = by (cases_order i k)
  where
    by : (i ≡ k) ⊎ ((i < k) ⊎ (k < i)) → P i
    by (inl e) = subst P (sym e) here
    by (inr (inl h)) = others (λ e. omega (arith, e, h))
    by (inr (inr h)) = others (λ e. omega (arith, e, h))

-- a number is below another, or not
pub seen_or_next : (P : Type 0) (n k : ℕ) → (n < k → P) → (k ≤ n → P) → P
seen_or_next P n k below above = by (cases_order n k)
  where
    by : (n ≡ k) ⊎ ((n < k) ⊎ (k < n)) → P
    by (inl e) = above (omega (arith, e))
    by (inr (inl h)) = below h
    by (inr (inr h)) = above (omega (arith, h))
