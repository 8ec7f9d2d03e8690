use Rattle.std.proofs.Common.{◌≤◌}
use Rattle.motion_search.specs.Areas.{AreColumns}
use Rattle.motion_search.proofs.AreaSums.{twice}
use Rattle.motion_search.proofs.areas.eight_rows.Given as goal

-- the rows before are summed up
abbrev pub invariant-loop-k : goal.invariant-loop-k
invariant-loop-k l = (l.k ≤ 8) × AreColumns (twice l.block) l.j l.k l.columns
