use Rattle.call_model.proofs.InTheCall.{packets_are_answered, near_is_near_both, all_near_is_all_near_both}
use Rattle.call_model.proofs.AnySender.{none_refused}
use Rattle.call_model.proofs.FramesAlone.{coded_stays}
use Rattle.call_model.proofs.laws.in_a_call.Goals as goal

pub returns-clause-answers : goal.returns-clause-answers
returns-clause-answers g c coding rules lawful ruled = packets_are_answered coding rules lawful ruled

pub returns-clause-not_refused : goal.returns-clause-not_refused
returns-clause-not_refused g c = none_refused _ _ _ _

pub returns-clause-coded : goal.returns-clause-coded
returns-clause-coded g c coding rules pace frames = coded_stays coding rules pace frames

pub returns-clause-near : goal.returns-clause-near
returns-clause-near g c coding rules lawful ruled = near_is_near_both coding rules lawful ruled

pub returns-clause-all_near : goal.returns-clause-all_near
returns-clause-all_near g c coding rules lawful ruled = all_near_is_all_near_both coding rules lawful ruled
