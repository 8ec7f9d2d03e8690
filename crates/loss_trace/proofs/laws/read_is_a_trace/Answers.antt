use Rattle.loss_trace.proofs.Traces.{is_trace}
use Rattle.loss_trace.proofs.laws.read_is_a_trace.Goals as goal

pub returns : goal.returns
returns c = is_trace
