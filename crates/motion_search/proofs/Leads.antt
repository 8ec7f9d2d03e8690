-- What the zero vector has ahead of the others.
use Rattle.std.proofs.Common.{◌≡◌, refl, subst, sym, arith, ℕ, Bool, true, false, cond, ◌&&◌, pos, ◌-ℤ◌, ◌<ℤ◌, ◌⊎◌, inl, inr}
use Rattle.std.proofs.lemmas.Int.{ints}
use Rattle.std.proofs.lemmas.Bool.Decides.{Decides-int_eq}
use Rattle.std.specs.Ordering.{int_eq}
use Rattle.h263_types.specs.declared.vector.Vector.{Vector}
use Rattle.motion_search.specs.declared.candidate.Candidate.{Candidate}
use Rattle.motion_search.specs.Order.{before}
use Rattle.motion_search.specs.Cost.{lead_of}
use Rattle.motion_search.specs.Vectors.{zero_vector}
use Rattle.motion_search.proofs.Blocks.{costing}
use Rattle.motion_search.proofs.Orders.{dearer_not_before}
use Rattle.motion_search.proofs.Squares.{same_vectors}

-- a vector is the zero vector, or has nothing ahead
pub zero_or_behind : (v : Vector) → (v ≡ zero_vector) ⊎ (lead_of v ≡ 0)
zero_or_behind v = by (int_eq v.x (pos 0)) (int_eq v.y (pos 0)) refl refl
  where
    by : (a b : Bool) → int_eq v.x (pos 0) ≡ a → int_eq v.y (pos 0) ≡ b
        → (v ≡ zero_vector) ⊎ (◌≡◌ {A = ℕ} (cond (a && b) 100 0) 0)
    by true true ex ey = inl (same_vectors v.x (pos 0) v.y (pos 0) ((Decides-int_eq v.x (pos 0)).0 ex)
        ((Decides-int_eq v.y (pos 0)).0 ey))
    by true false ex ey = inr refl
    by false b ex ey = inr refl

-- more differences than the best one costs: only the zero vector may still come before it
pub not_before_by_differences : (v : Vector) (n : ℕ) (best : Candidate) → best.cost <ℤ pos n
    → (v ≡ zero_vector → before (costing v n) best ≡ false) →
    before (costing v n) best ≡ false
not_before_by_differences v n best more zero = by (zero_or_behind v)
  where
    by : (v ≡ zero_vector) ⊎ (lead_of v ≡ 0) → before (costing v n) best ≡ false
    by (inl e) = zero e
    by (inr e) = dearer_not_before (costing v n) best (subst (λ (k : ℕ). best.cost <ℤ (pos n -ℤ pos k)) (sym e)
        (omega (arith, ints, more)))
