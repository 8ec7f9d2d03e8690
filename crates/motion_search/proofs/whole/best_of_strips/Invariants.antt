use Rattle.std.proofs.Common.{ℕ, ◌<◌, ◌+◌, ◌*◌, ◌-◌, ◌≤ℤ◌}
use Rattle.motion_search.specs.Vectors.{whole_component}
use Rattle.motion_search.specs.SoFar.{IsNoBetter, IsBestSoFar}
use Rattle.motion_search.proofs.whole.best_of_strips.Given as goal

-- none of the vectors in the columns before comes before the first one
abbrev pub invariant-loop-column : goal.invariant-loop-column
invariant-loop-column l = record {
  left : l.window.reach.left ≤ℤ whole_component l.window.radius l.column;
  so_far : IsBestSoFar l.window l.first;
  none : (m n : ℕ) → m < 2 * l.window.radius + 1 → n < 2 * l.window.radius + 1 → n < l.column
      → IsNoBetter l.window n m l.first;
}

abbrev pub decreases-loop-column : goal.decreases-loop-column
decreases-loop-column l = 2 * l.window.radius + 1 - l.column
