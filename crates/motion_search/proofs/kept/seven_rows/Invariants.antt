use Rattle.std.proofs.Common.{ℕ, ◌≤◌}
use Rattle.h263_planes.specs.Lent.{picture}
use Rattle.motion_search.specs.Areas.{AreSamplesAt, AreColumns, IsBeside}
use Rattle.motion_search.proofs.kept.seven_rows.Given as goal

-- the rows before are summed up
abbrev pub invariant-loop-j : goal.invariant-loop-j
invariant-loop-j l = record {
  few : l.j ≤ 7;
  sums : (f : ℕ → ℕ → ℕ) → AreSamplesAt f → IsBeside (picture l.reference) l.x l.z f → AreColumns f l.y l.j l.columns;
}
