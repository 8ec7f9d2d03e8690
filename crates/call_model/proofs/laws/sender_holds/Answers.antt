use Rattle.call_model.proofs.SenderStanding.{holds_its_run}
use Rattle.call_model.proofs.Holding.{next_above_nothing, next_is_steered, new_holds, capture_holds, feedback_holds, other_feedback_holds}
use Rattle.call_model.proofs.laws.sender_holds.Goals as goal

pub returns-clause-stands : goal.returns-clause-stands
returns-clause-stands g c pictures encoding rules ruled = holds_its_run pictures encoding rules ruled

pub returns-clause-next : goal.returns-clause-next
returns-clause-next g c pictures encoding rules ruled = next_is_steered pictures encoding rules ruled

pub returns-clause-plain : goal.returns-clause-plain
returns-clause-plain g c pictures encoding rules = next_above_nothing pictures encoding rules

pub returns-clause-new : goal.returns-clause-new
returns-clause-new g c pictures encoding rules ruled = new_holds pictures encoding rules ruled

pub returns-clause-capture : goal.returns-clause-capture
returns-clause-capture g c pictures encoding rules encodes ruled = capture_holds pictures encoding rules ruled encodes

pub returns-clause-feedback : goal.returns-clause-feedback
returns-clause-feedback g c pictures encoding rules ruled = feedback_holds pictures encoding rules ruled

pub returns-clause-other : goal.returns-clause-other
returns-clause-other g c pictures encoding rules ruled = other_feedback_holds pictures encoding rules ruled
