use Rattle.packet_gaps.proofs.Past.{few}
use Rattle.packet_gaps.proofs.laws.few.Goals as goal

pub returns : goal.returns
returns c = few
