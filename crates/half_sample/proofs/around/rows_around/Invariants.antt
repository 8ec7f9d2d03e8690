use Rattle.std.proofs.Common.{◌+◌}
use Rattle.h263_planes.specs.Lent.{picture}
use Rattle.half_sample.specs.Rows.{AreRowsAround, IsSampleLine}
use Rattle.half_sample.proofs.around.rows_around.Given as goal

-- the rows above j are done, and the line above is at hand
abbrev pub invariant-loop-j : goal.invariant-loop-j
invariant-loop-j l = record {
  line : IsSampleLine (picture l.reference) l.place.x (l.place.y + l.j) l.above;
  rows : AreRowsAround (picture l.reference) l.rounding l.place.x l.place.y l.j l.out;
}
