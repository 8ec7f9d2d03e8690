-- What the step of whole samples knows on its way.
use Rattle.std.specs.Prelude.{◌≡◌, ℕ, ◌+◌, ◌<◌, ◌≤◌, pos, ◌≤ℤ◌, false, replicate}
use Rattle.h263_types.specs.Sizes.{height_of}
use Rattle.h263_types.specs.Vectors.{InReach}
use Rattle.h263_planes.specs.Lent.{picture}
use Rattle.motion_search.specs.declared.candidate.Candidate.{Candidate}
use Rattle.motion_search.specs.declared.kept.KeptSums.{KeptSums}
use Rattle.motion_search.specs.declared.strip.Leader.{Leader}
use Rattle.motion_search.specs.declared.window.Window.{Window}
use Rattle.motion_search.specs.Order.{before}
use Rattle.motion_search.specs.Cost.{candidate_of, IsCost}
use Rattle.motion_search.specs.Vectors.{whole_at, zero_vector}
use Rattle.motion_search.specs.Best.{IsWholeCandidate}

-- the best one of some of the candidates, the zero vector among them
pub record IsBestSoFar (w : Window) (best : Candidate) : Type 0 where
  pub zero : before (candidate_of w.block.now (picture w.reference) w.mb 0 zero_vector) best ≡ false
  pub candidate : IsWholeCandidate w.block.now (picture w.reference) w.mb w.radius 0 best
  pub cost : IsCost best.cost

-- what doesn't come before one candidate doesn't come before the next either
abbrev pub IsNoWorse : Candidate → Candidate → Type 0
IsNoWorse best next = (d : Candidate) → before d best ≡ false → before d next ≡ false

-- the vector in a column and a row of the square is out of reach, or doesn't come before the best one
abbrev pub IsNoBetter : Window → ℕ → ℕ → Candidate → Type 0
IsNoBetter w column row best =
    InReach (picture w.reference).format w.mb (whole_at w.radius column row).x (whole_at w.radius column row).y
    → before (candidate_of w.block.now (picture w.reference) w.mb 0 (whole_at w.radius column row)) best ≡ false

-- the sums that are kept are those of all rows of areas to which a vector in reach may lead, and of
-- those eight rows further down
abbrev pub HoldsAround : Window → KeptSums → Type 0
HoldsAround w s =
    (y : ℕ) → w.top ≤ y + w.radius → y ≤ w.top + w.radius → y + 16 ≤ height_of (picture w.reference).format
    → (s.first ≤ y) × (y + 8 < s.end)

-- the limit is no less than what the best one costs, and the same in all lanes
abbrev pub HasLimit : Leader → Type 0
HasLimit l = (l.best.cost ≤ℤ pos l.most) × (l.limit ≡ replicate 16 l.most)
