use Rattle.std.proofs.Common.{◌≤◌, Option, Some, ap, sym, subst, ◌∙◌}
use Rattle.h263rps_c.specs.declared.ends.End.{End}
use Rattle.h263rps_c.specs.declared.answers.Answer.{Answer}
use Rattle.h263rps_c.specs.Ends.{HoldsReceiver}
use Rattle.h263rps_c.specs.Numbers.{heard_answer}
use Rattle.h263rps_c.proofs.Untaken.{untaken}
use Rattle.h263rps_c.proofs.receiver.h263rps_raw_receiver_packet.Goals as goal

pub returns-in-Ok-clause-untaken : goal.returns-in-Ok-clause-untaken
returns-in-Ok-clause-untaken c = λ status two.
    let told : 2 ≤ (heard_answer c.in-Ok.arrival.heard).kind = subst (λ (a : Answer). 2 ≤ a.kind) c.arrived.ensures two
    in
    ap Some (c.in-Ok.ensures.untaken (untaken c.in-Ok.arrival.heard told)) ∙ sym c.end_mut.ensures.value

pub returns-in-Ok-clause-stands : goal.returns-in-Ok-clause-stands
returns-in-Ok-clause-stands c = λ p past before.
    c.arrival.ensures.stands p past (subst (λ (o : Option End). HoldsReceiver p past o) c.end_mut.ensures.value before)
