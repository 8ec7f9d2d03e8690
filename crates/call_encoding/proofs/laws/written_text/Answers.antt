use Rattle.call_encoding.proofs.Messages.{text_of_written}
use Rattle.call_encoding.proofs.laws.written_text.Goals as goal

pub returns : goal.returns
returns c = text_of_written c.in_a_syntax.ensures
