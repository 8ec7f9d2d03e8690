use Rattle.h263_planes.specs.Lent.{picture}
use Rattle.motion_search.proofs.Nears.{IsFirst}
use Rattle.motion_search.proofs.half.best_at_edge.Given as goal

abbrev pub invariant-loop-n : goal.invariant-loop-n
invariant-loop-n l = IsFirst l.block (picture l.reference) l.mb l.rounding l.best l.n l.first
