use Rattle.loss_trace.proofs.Traces.{trace_fault_none, trace_events_are}
use Rattle.loss_trace.proofs.laws.a_trace_is_read.Goals as goal

pub returns-clause-fault : goal.returns-clause-fault
returns-clause-fault c = trace_fault_none

pub returns-clause-events : goal.returns-clause-events
returns-clause-events c = trace_events_are
