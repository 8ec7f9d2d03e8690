use Rattle.call_model.proofs.Rings.{packets_are_in_ring}
use Rattle.call_model.proofs.MessageRing.{messages_are_in_ring}
use Rattle.call_model.proofs.laws.rings.Goals as goal

pub returns-clause-packets : goal.returns-clause-packets
returns-clause-packets g c coding rules = packets_are_in_ring coding rules

pub returns-clause-messages : goal.returns-clause-messages
returns-clause-messages g c coding rules lawful ruled = messages_are_in_ring coding rules lawful ruled
