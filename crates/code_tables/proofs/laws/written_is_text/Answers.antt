use Rattle.code_tables.proofs.WrittenEvents.{are_spelt}
use Rattle.code_tables.proofs.laws.written_is_text.Goals as goal

pub returns : goal.returns
returns c = are_spelt
