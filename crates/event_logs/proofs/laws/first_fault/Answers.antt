use Rattle.event_logs.proofs.Logs.{bad_log, full_log}
use Rattle.event_logs.proofs.laws.first_fault.Goals as goal

pub returns-clause-bad : goal.returns-clause-bad
returns-clause-bad c = bad_log

pub returns-clause-many : goal.returns-clause-many
returns-clause-many c = full_log
