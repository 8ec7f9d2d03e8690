use Rattle.std.proofs.Common.{sym, ap, subst, ◌∙◌}
use Rattle.h263_types.specs.declared.pace.FixedPace.{FixedPace}
use Rattle.h263_types.specs.declared.params.Params.{Params}
use Rattle.sender_end.specs.State.{SenderState}
use Rattle.group_sender.specs.Holding.{HoldsGroup, group_after_saying}
use Rattle.group_call.proofs.broadcast.Broadcast.hear.Goals as goal

pub returns-clause-holds : goal.returns-clause-holds
returns-clause-holds c = λ p run h. record {
  in_range = h.in_range;
  params = c.feedback-answer.ensures.params ∙ h.params;
  quant = ap (λ (s : SenderState FixedPace). s.pace.quant) c.feedback-answer.ensures.sender ∙ h.quant;
  holds = subst (λ (q : Params). HoldsGroup c.feedback-answer.new.self
      (group_after_saying q c.args.place c.args.bytes.now run)) h.params
      (c.feedback-answer.ensures.holds run h.holds);
  packets = h.packets;
  references = h.references;
  room = h.room;
  most = h.most;
  begun = h.begun ∙ sym (ap (λ (s : SenderState FixedPace). s.sent) c.feedback-answer.ensures.sender);
}

pub returns-clause-ready : goal.returns-clause-ready
returns-clause-ready c = λ r. record {
  params = r.params;
  run = group_after_saying r.params c.args.place c.args.bytes.now r.run;
  holds = returns-clause-holds c r.params r.run r.holds;
}
