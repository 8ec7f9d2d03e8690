use Rattle.call_model.proofs.SenderStanding.{known_were_sent, reference_by_kept_is, next_by_kept_is, new_sender_stands, capture_stands, feedback_stands, other_feedback_stands}
use Rattle.call_model.proofs.laws.sender_stands.Goals as goal

pub returns-clause-known : goal.returns-clause-known
returns-clause-known g c pictures encoding rules ruled = known_were_sent pictures encoding rules ruled

pub returns-clause-reference : goal.returns-clause-reference
returns-clause-reference g c pictures encoding rules ruled = reference_by_kept_is pictures encoding rules ruled

pub returns-clause-next : goal.returns-clause-next
returns-clause-next g c pictures encoding rules ruled = next_by_kept_is pictures encoding rules ruled

pub returns-clause-new : goal.returns-clause-new
returns-clause-new g c pictures encoding rules ruled = new_sender_stands pictures encoding rules ruled

pub returns-clause-feedback : goal.returns-clause-feedback
returns-clause-feedback g c pictures encoding rules ruled = feedback_stands pictures encoding rules ruled

pub returns-clause-other : goal.returns-clause-other
returns-clause-other g c pictures encoding rules ruled = other_feedback_stands pictures encoding rules ruled

pub returns-clause-capture : goal.returns-clause-capture
returns-clause-capture g c pictures encoding rules encodes ruled = capture_stands pictures encoding rules ruled encodes
