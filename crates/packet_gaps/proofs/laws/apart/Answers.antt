use Rattle.packet_gaps.proofs.Twice.{apart}
use Rattle.packet_gaps.proofs.laws.apart.Goals as goal

pub returns : goal.returns
returns c = apart
