use Rattle.rtp_header.proofs.Writing.{written_again}
use Rattle.rtp_header.proofs.laws.read_again.Goals as goal

pub returns : goal.returns
returns c = written_again
