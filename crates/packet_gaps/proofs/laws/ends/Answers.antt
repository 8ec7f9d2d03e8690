use Rattle.packet_gaps.proofs.Naming.{ends}
use Rattle.packet_gaps.proofs.laws.ends.Goals as goal

pub returns : goal.returns
returns c = ends
