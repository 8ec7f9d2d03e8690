use Rattle.loss_trace.proofs.Traces.{bad_trace, full_trace}
use Rattle.loss_trace.proofs.laws.first_fault.Goals as goal

pub returns-clause-bad : goal.returns-clause-bad
returns-clause-bad c = bad_trace

pub returns-clause-many : goal.returns-clause-many
returns-clause-many c = full_trace
