use Rattle.std.proofs.Common.{◌≡◌, ◌+◌, ◌*◌}
use Rattle.h263_planes.specs.Rows.{sets_rows}
use Rattle.h263_planes.proofs.work.put_rows.Given as goal

-- the rows above k are written
abbrev pub invariant-loop-k : goal.invariant-loop-k
invariant-loop-k g l =
    (l.bytes ≡ sets_rows l.width g.row.N l.stride l.samples l.fn.from l.k l.initial.bytes)
    × (l.to ≡ l.fn.from + l.width * l.k)
    × (l.at ≡ l.stride * l.k)
