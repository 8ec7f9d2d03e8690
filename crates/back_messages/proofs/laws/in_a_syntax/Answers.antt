use Rattle.back_messages.proofs.Codes.{wide}
use Rattle.back_messages.proofs.Texts.{message_productive, field_spells, length-message_text}
use Rattle.back_messages.proofs.laws.in_a_syntax.Goals as goal

pub returns : goal.returns
returns c = record { productive = message_productive; spelt = field_spells; length = length-message_text; wide = wide }
