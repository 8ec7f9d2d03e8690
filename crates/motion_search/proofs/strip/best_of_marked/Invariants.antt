use Rattle.std.proofs.Common.{◌≡◌, ℕ, ◌<◌, ◌+◌, ◌*◌}
use Rattle.std.specs.Int.{bit_at}
use Rattle.motion_search.specs.SoFar.{IsNoBetter, IsNoWorse, IsBestSoFar}
use Rattle.motion_search.proofs.strip.best_of_marked.Given as goal

-- none of those that aren't marked, or were and have been seen, comes before the first one
abbrev pub invariant-loop-left : goal.invariant-loop-left
invariant-loop-left l = record {
  so_far : IsBestSoFar l.window l.first;
  kept : IsNoWorse l.fn.best l.first;
  none : (i : ℕ) → i < 16 → bit_at l.left i ≡ 0 → l.column + i < 2 * l.window.radius + 1
      → IsNoBetter l.window (l.column + i) l.row l.first;
}

abbrev pub decreases-loop-left : goal.decreases-loop-left
decreases-loop-left l = l.left
