use Rattle.rtp_header.proofs.Exact.{read_text, text_within}
use Rattle.rtp_header.proofs.laws.payload_within.Goals as goal

pub returns : goal.returns
returns c = λ r bytes e. text_within r bytes (read_text r bytes e)
