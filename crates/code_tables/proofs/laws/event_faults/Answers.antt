use Rattle.code_tables.proofs.EventWords.{event_faults_are}
use Rattle.code_tables.proofs.laws.event_faults.Goals as goal

pub returns : goal.returns
returns c = event_faults_are
