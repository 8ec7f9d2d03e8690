use Rattle.code_tables.proofs.FaultRows.{word_faults}
use Rattle.code_tables.proofs.laws.first_faults.Goals as goal

pub returns : goal.returns
returns c = word_faults
