use Rattle.h263_payload.proofs.Exact.{read_text, text_read}
use Rattle.h263_payload.proofs.laws.exact_text.Goals as goal

pub returns : goal.returns
returns c = record { read = read_text; written = text_read c.in_a_syntax.ensures }
