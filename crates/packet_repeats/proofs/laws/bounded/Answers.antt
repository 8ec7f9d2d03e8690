use Rattle.packet_repeats.proofs.Found.{bounded}
use Rattle.packet_repeats.proofs.laws.bounded.Goals as goal

pub returns : goal.returns
returns c = bounded
