use Rattle.std.proofs.Common.{rules, Option, subst}
use Rattle.std.specs.Prelude.{IsOk}
use Rattle.h263rps_c.specs.declared.ends.End.{End}
use Rattle.h263rps_c.specs.Ends.{HoldsReceiver}
use Rattle.h263rps_c.proofs.resetting.h263rps_raw_receiver_reset.Goals as goal

pub returns-in-Ok-clause-stands : goal.returns-in-Ok-clause-stands
returns-in-Ok-clause-stands c = λ p past before status.
    let ok : IsOk c.receive_anew.result = search rules in
    c.receive_anew.ensures.stands p past (subst (λ (o : Option End). HoldsReceiver p past o) c.end_mut.ensures.value
    before) ok
