use Rattle.std.proofs.Common.{Option, subst, ap, ◌∙◌}
use Rattle.h263rps_c.specs.declared.kept_group.KeptGroup.{KeptGroup}
use Rattle.h263rps_c.specs.Groups.{HoldsKept, number_or_most}
use Rattle.h263rps_c.proofs.group.h263rps_raw_group_waiting_for.Goals as goal

pub returns-clause-told : goal.returns-clause-told
returns-clause-told c = λ p first past held.
    c.number_or_most.ensures
    ∙ ap number_or_most (c.waiting_for.ensures p first past
    (subst (λ (o : Option KeptGroup). HoldsKept p first past o) c.group_mut.ensures.value held))
