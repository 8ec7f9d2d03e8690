use Rattle.back_messages.proofs.Texts.{text_read, read_text}
use Rattle.back_messages.proofs.laws.exact_text.Goals as goal

pub returns : goal.returns
returns c = record { written = text_read; read = read_text }
