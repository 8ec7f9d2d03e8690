use Rattle.std.proofs.Common.{sym, ◌∙◌}
use Rattle.h263_bits.proofs.SyntaxLaws.{ok_is}
use Rattle.rtp_header.proofs.Exact.{text_read}
use Rattle.rtp_header.proofs.laws.one_reading.Goals as goal

pub returns : goal.returns
returns c = λ r s bytes first second. ok_is r s (sym (text_read r bytes first) ∙ text_read s bytes second)
