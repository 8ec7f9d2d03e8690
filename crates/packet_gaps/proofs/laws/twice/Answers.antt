use Rattle.packet_gaps.proofs.Twice.{twice}
use Rattle.packet_gaps.proofs.laws.twice.Goals as goal

pub returns : goal.returns
returns c = twice
