use Rattle.packet_gaps.proofs.Later.{of_later}
use Rattle.packet_gaps.proofs.laws.of_later.Goals as goal

pub returns : goal.returns
returns c = of_later
