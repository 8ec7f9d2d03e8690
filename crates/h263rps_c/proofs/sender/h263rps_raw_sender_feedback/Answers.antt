use Rattle.std.proofs.Common.{◌≤◌, Option, Some, ap, sym, subst, ◌∙◌}
use Rattle.h263rps_c.specs.declared.ends.End.{End}
use Rattle.h263rps_c.specs.declared.answers.Reply.{Reply}
use Rattle.h263rps_c.specs.Ends.{HoldsSteered}
use Rattle.h263rps_c.specs.Numbers.{reply_numbers}
use Rattle.h263rps_c.proofs.Untaken.{unnoted}
use Rattle.h263rps_c.proofs.sender.h263rps_raw_sender_feedback.Goals as goal

pub returns-in-Ok-clause-unnoted : goal.returns-in-Ok-clause-unnoted
returns-in-Ok-clause-unnoted c = λ status one.
    let told : 1 ≤ (reply_numbers c.in-Ok.answer).kind = subst (λ (r : Reply). 1 ≤ r.kind) c.of.ensures one in
    ap Some (c.in-Ok.ensures.unnoted (unnoted c.in-Ok.answer told)) ∙ sym c.end_mut.ensures.value

pub returns-in-Ok-clause-steers : goal.returns-in-Ok-clause-steers
returns-in-Ok-clause-steers c = λ p fits first past before.
    c.feedback.ensures.steers p fits first past (subst (λ (o : Option End). HoldsSteered p fits first past o)
    c.end_mut.ensures.value before)

pub returns-in-Ok-clause-replies : goal.returns-in-Ok-clause-replies
returns-in-Ok-clause-replies c = λ p fits first past before. record {
  told = c.in-Ok.answer;
  is_reply = c.in-Ok.ensures.replies p fits first past (subst (λ (o : Option End). HoldsSteered p fits first past o)
      c.end_mut.ensures.value before);
  is_told = c.of.ensures;
}
