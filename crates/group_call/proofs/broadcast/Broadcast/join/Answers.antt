use Rattle.std.proofs.Common.{sym, ap, ◌∙◌}
use Rattle.h263_types.specs.declared.pace.FixedPace.{FixedPace}
use Rattle.sender_end.specs.State.{SenderState}
use Rattle.group_sender.specs.Running.{after_join}
use Rattle.group_call.proofs.broadcast.Broadcast.join.Goals as goal

pub returns-clause-holds : goal.returns-clause-holds
returns-clause-holds c = λ p run h. record {
  in_range = h.in_range;
  params = c.join.ensures.params ∙ h.params;
  quant = ap (λ (s : SenderState FixedPace). s.pace.quant) c.join.ensures.sender ∙ h.quant;
  holds = c.join.ensures.holds run h.holds;
  packets = h.packets;
  references = h.references;
  room = h.room;
  most = h.most;
  begun = h.begun ∙ sym (ap (λ (s : SenderState FixedPace). s.sent) c.join.ensures.sender);
}

pub returns-clause-ready : goal.returns-clause-ready
returns-clause-ready c = λ r. record {
  params = r.params;
  run = after_join c.args.place r.run;
  holds = returns-clause-holds c r.params r.run r.holds;
}
