use Rattle.std.proofs.Common.{◌≡◌, ℕ, ◌<◌, ◌+◌, ◌*◌}
use Rattle.motion_search.specs.SoFar.{HasLimit, IsNoBetter, IsNoWorse, IsBestSoFar}
use Rattle.motion_search.proofs.strip.best_of_strip.Given as goal

-- the sums of the row stand from the place on, and none of the vectors seen comes before the first one
abbrev pub invariant-loop-row : goal.invariant-loop-row
invariant-loop-row l = record {
  place : l.at + 384 * (l.sums.first + l.window.radius) ≡ 384 * (l.window.top + l.row) + l.x;
  so_far : IsBestSoFar l.window l.first.best;
  most : HasLimit l.first;
  kept : IsNoWorse l.fn.best l.first.best;
  none : (m i : ℕ) → m < l.row → i < 16 → l.column + i < 2 * l.window.radius + 1
      → IsNoBetter l.window (l.column + i) m l.first.best;
}
