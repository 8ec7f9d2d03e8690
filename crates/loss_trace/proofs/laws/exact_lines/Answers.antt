use Rattle.loss_trace.proofs.Spelled.{event_is, event_found}
use Rattle.loss_trace.proofs.laws.exact_lines.Goals as goal

pub returns-clause-read : goal.returns-clause-read
returns-clause-read c = event_is

pub returns-clause-spelled : goal.returns-clause-spelled
returns-clause-spelled c = λ line event. event_found event line
