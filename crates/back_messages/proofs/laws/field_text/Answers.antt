use Rattle.back_messages.proofs.Texts.{field_spells, spelled_field}
use Rattle.back_messages.proofs.laws.field_text.Goals as goal

pub returns : goal.returns
returns c = record { written = field_spells; read = spelled_field }
