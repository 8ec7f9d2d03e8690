use Rattle.event_logs.proofs.Logs.{is_log}
use Rattle.event_logs.proofs.laws.read_is_a_log.Goals as goal

pub returns : goal.returns
returns c = is_log
