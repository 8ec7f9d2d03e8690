use Rattle.std.proofs.Common.{◌≡◌}
use Rattle.h263_planes.specs.Work.{loan_of, work}
use Rattle.make_input.proofs.Planes.{RowsMade}
use Rattle.make_input.proofs.frames.put_plane.Given as goal

-- the rows up to here are made
abbrev pub invariant-loop-y : goal.invariant-loop-y
invariant-loop-y l = (loan_of l.out ≡ loan_of l.fn.out) × RowsMade l.fn.seed l.fn.number l.fn.plane l.y (work l.fn.out)
    (work l.out)
