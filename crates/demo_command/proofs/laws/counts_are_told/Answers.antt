use Rattle.demo_command.proofs.Telling.{tells}
use Rattle.demo_command.proofs.laws.counts_are_told.Goals as goal

pub returns : goal.returns
returns c = tells
