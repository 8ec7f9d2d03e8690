use Rattle.std.proofs.Common.{rules, Option, subst}
use Rattle.std.specs.Prelude.{IsOk}
use Rattle.h263rps_c.specs.declared.kept_group.KeptGroup.{KeptGroup}
use Rattle.h263rps_c.specs.Groups.{HoldsKept}
use Rattle.h263rps_c.proofs.group.h263rps_raw_group_quant.Goals as goal

pub returns-in-Ok-clause-stands : goal.returns-in-Ok-clause-stands
returns-in-Ok-clause-stands c = λ p first past before status.
    let ok : IsOk c.fix.result = search rules in
    c.fix.ensures.stands p first past (subst (λ (o : Option KeptGroup). HoldsKept p first past o)
    c.group_mut.ensures.value before) ok
