use Rattle.packet_gaps.proofs.Past.{missing}
use Rattle.packet_gaps.proofs.laws.missing.Goals as goal

pub returns : goal.returns
returns c = missing
