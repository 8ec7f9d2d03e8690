use Rattle.std.proofs.Common.{Option, Err, ap, sym, subst, ◌∙◌}
use Rattle.h263rps_c.specs.declared.ends.End.{End}
use Rattle.h263rps_c.specs.Ends.{HoldsSteered}
use Rattle.h263rps_c.proofs.RefusalNumbers.{short_room}
use Rattle.h263rps_c.proofs.sender.h263rps_raw_sender_packet.Goals as goal

pub returns-in-Err-clause-enough : goal.returns-in-Err-clause-enough
returns-in-Err-clause-enough c = λ p fits first past before status.
    c.in-Err.ensures.enough p fits first past (subst (λ (o : Option End). HoldsSteered p fits first past o)
    c.end_mut.ensures.value before)
    (ap Err (short_room c.in-Err.refusal (sym c.number-in-Err.ensures.value ∙ status)))
