use Rattle.event_logs.proofs.Logs.{log_fault_none, log_entries_are}
use Rattle.event_logs.proofs.laws.a_log_is_read.Goals as goal

pub returns-clause-fault : goal.returns-clause-fault
returns-clause-fault c = log_fault_none

pub returns-clause-entries : goal.returns-clause-entries
returns-clause-entries c = log_entries_are
