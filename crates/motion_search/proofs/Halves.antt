-- A neighbour of a vector of whole samples isn't the zero vector.
use Rattle.std.proofs.Common.{◌≡◌, ℕ, ◌+◌, ◌/◌, ◌%◌, ◌<◌, sym, ap, arith, Bool, cond, ℤ, pos, negsuc, ◌+ℤ◌, ◌-ℤ◌, ◌<ℤ◌, unsigned_abs}
use Rattle.std.proofs.lemmas.Int.{ints}
use Rattle.h263_types.specs.declared.vector.Vector.{Vector}
use Rattle.motion_search.specs.declared.candidate.Candidate.{Candidate}
use Rattle.motion_search.specs.Order.{earlier_of}
use Rattle.motion_search.specs.Vectors.{zero_vector, IsEven}
use Rattle.motion_search.proofs.Blocks.{costing}
use Rattle.motion_search.proofs.Leads.{not_before_by_differences}
use Rattle.motion_search.proofs.Nears.{eighth}

-- an even component that a step of a half sample at most takes to 0 was there before
middle_of : (z : ℤ) (m : ℕ) → unsigned_abs z % 2 ≡ 0 → m < 3 → z +ℤ (pos m -ℤ pos 1) ≡ pos 0 → m ≡ 1
middle_of (pos n) m e hm h = omega (arith, ints, e, hm, h)
middle_of (negsuc n) m e hm h = omega (arith, ints, e, hm, h)

not_the_middle : (n : ℕ) → n < 8 → (n + n / 4) % 3 ≡ 1 → (n + n / 4) / 3 ≡ 1 → ⊥
not_the_middle n h a b = omega arith

not_zero : (v : Vector) (n : ℕ) → n < 8 → IsEven v → eighth v n ≡ zero_vector → ⊥
not_zero v n hn even e =
    not_the_middle n hn
    (middle_of v.x ((n + n / 4) % 3) even.x (omega arith) (ap (λ (w : Vector). w.x) e))
    (middle_of v.y ((n + n / 4) / 3) even.y (omega arith) (ap (λ (w : Vector). w.y) e))

-- with more differences than the best one costs it doesn't come before that
pub stays_first : (now : Candidate) (v : Vector) (n s : ℕ) → n < 8 → IsEven v → now.cost <ℤ pos s
    → now ≡ earlier_of now (costing (eighth v n) s)
stays_first now v n s hn even more =
    sym (ap (λ (b : Bool). cond b (costing (eighth v n) s) now)
    (not_before_by_differences (eighth v n) s now more (λ e. absurd (not_zero v n hn even e))))
