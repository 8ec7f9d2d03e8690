use Rattle.packet_gaps.proofs.Naming.{named}
use Rattle.packet_gaps.proofs.laws.named.Goals as goal

pub returns : goal.returns
returns c = named
