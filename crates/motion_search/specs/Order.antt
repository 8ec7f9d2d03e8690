-- The order of candidates: vectors with their costs.
use Rattle.std.specs.Prelude.{ℕ, ◌+◌, unsigned_abs, Bool, List, [], ◌∷◌, if◌then◌else◌}
use Rattle.std.specs.declared.cmp.Ordering.{Ordering}
use Rattle.std.specs.Ordering.{is_lt, int_cmp, nat_cmp, on, then_cmp}
use Rattle.h263_types.specs.declared.vector.Vector.{Vector}
use Rattle.motion_search.specs.declared.candidate.Candidate.{Candidate}

-- how far a vector leads, across and down
abbrev pub length_of : Vector → ℕ
length_of v = unsigned_abs v.x + unsigned_abs v.y

-- how two candidates compare: by their costs, then by how far they lead, then by the vertical
-- components, and then by the horizontal ones
abbrev pub compared : Candidate → Candidate → Ordering
compared =
    then_cmp (on (λ (c : Candidate). c.cost) int_cmp)
    (then_cmp (on (λ (c : Candidate). length_of c.vector) nat_cmp)
    (then_cmp (on (λ (c : Candidate). c.vector.y) int_cmp)
    (on (λ (c : Candidate). c.vector.x) int_cmp)))

-- whether c comes before d
abbrev pub before : Candidate → Candidate → Bool
before c d = is_lt (compared c d)

-- the one of two that comes first
abbrev pub earlier_of : Candidate → Candidate → Candidate
earlier_of best c = if before c best then c else best

-- the one that comes first of a candidate and those of a list
unfoldable pub least : Candidate → List Candidate → Candidate
least first [] = first
least first (c ∷ cs) = earlier_of (least first cs) c
