use Rattle.std.proofs.Common.{Option, subst}
use Rattle.h263rps_c.specs.declared.kept_group.KeptGroup.{KeptGroup}
use Rattle.h263rps_c.specs.Groups.{HoldsKept}
use Rattle.h263rps_c.proofs.group.h263rps_raw_group_sent.Goals as goal

pub returns-clause-told : goal.returns-clause-told
returns-clause-told c = λ p first past held.
    c.sent.ensures p first past (subst (λ (o : Option KeptGroup). HoldsKept p first past o) c.group_mut.ensures.value
    held)
