use Rattle.std.proofs.Common.{Option, subst}
use Rattle.h263rps_c.specs.declared.ends.End.{End}
use Rattle.h263rps_c.specs.Lines.{HoldsLine}
use Rattle.h263rps_c.proofs.lining.h263rps_raw_line_told.Goals as goal

pub returns-in-Ok-clause-stands : goal.returns-in-Ok-clause-stands
returns-in-Ok-clause-stands c = λ f held.
    c.line_told.ensures.stands f (subst (λ (o : Option End). HoldsLine f o) c.end_mut.ensures.value held)
