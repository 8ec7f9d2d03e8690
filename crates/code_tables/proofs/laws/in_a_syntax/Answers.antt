use Rattle.code_tables.proofs.Productive.{are_productive}
use Rattle.code_tables.proofs.WrittenEvents.{are_spelt}
use Rattle.code_tables.proofs.laws.in_a_syntax.Goals as goal

pub returns : goal.returns
returns c = record { productive = are_productive; spelt = are_spelt }
