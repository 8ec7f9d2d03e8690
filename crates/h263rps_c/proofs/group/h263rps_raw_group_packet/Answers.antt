use Rattle.std.proofs.Common.{Option, Err, ap, sym, subst, ◌<◌, ◌∙◌, length}
use Rattle.h263_types.specs.declared.params.Params.{Params}
use Rattle.h263rps_c.specs.declared.kept_group.KeptGroup.{KeptGroup}
use Rattle.h263rps_c.specs.Groups.{HoldsKept}
use Rattle.h263rps_c.proofs.RefusalNumbers.{short_room}
use Rattle.h263rps_c.proofs.group.h263rps_raw_group_packet.Goals as goal

pub returns-in-Err-clause-enough : goal.returns-in-Err-clause-enough
returns-in-Err-clause-enough c = λ p first past before status.
    let held = subst (λ (o : Option KeptGroup). HoldsKept p first past o) c.group_mut.ensures.value before in
    subst (λ (q : Params). length c.args.room.now < q.limit) held.params
    (c.in-Err.ensures.enough (ap Err (short_room c.in-Err.refusal (sym c.number-in-Err.ensures.value ∙ status))))
