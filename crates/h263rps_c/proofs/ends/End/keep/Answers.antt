use Rattle.std.proofs.Common.{Some, subst}
use Rattle.h263rps_c.specs.declared.ends.End.{End}
use Rattle.h263rps_c.specs.Repeating.{HoldsRepeats}
use Rattle.h263rps_c.proofs.ends.End.keep.Goals as goal

pub returns-in-Repeats-clause-stands : goal.returns-in-Repeats-clause-stands
returns-in-Repeats-clause-stands c = λ places longest sent held.
    c.keep.ensures places longest sent (subst (λ (e : End). HoldsRepeats places longest sent (Some e)) c.in-Repeats.is
    held)
