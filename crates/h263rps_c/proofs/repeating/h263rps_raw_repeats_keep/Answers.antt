use Rattle.std.proofs.Common.{Option, subst}
use Rattle.h263rps_c.specs.declared.ends.End.{End}
use Rattle.h263rps_c.specs.Repeating.{HoldsRepeats}
use Rattle.h263rps_c.proofs.repeating.h263rps_raw_repeats_keep.Goals as goal

pub returns-in-Ok-clause-stands : goal.returns-in-Ok-clause-stands
returns-in-Ok-clause-stands c = λ places longest sent held.
    c.keep.ensures.stands places longest sent (subst (λ (o : Option End). HoldsRepeats places longest sent o)
    c.end_mut.ensures.value held)
