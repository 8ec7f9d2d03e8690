use Rattle.std.proofs.Common.{sym, ◌∙◌}
use Rattle.h263_bits.proofs.SyntaxLaws.{ok_is}
use Rattle.h263_payload.proofs.Exact.{text_read}
use Rattle.h263_payload.proofs.laws.one_reading.Goals as goal

pub returns : goal.returns
returns c = λ format p q b first second. ok_is p q (sym (text_read c.in_a_syntax.ensures format p b first)
    ∙ text_read c.in_a_syntax.ensures format q b second)
