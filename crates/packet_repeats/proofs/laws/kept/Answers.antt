use Rattle.packet_repeats.proofs.Found.{kept}
use Rattle.packet_repeats.proofs.laws.kept.Goals as goal

pub returns : goal.returns
returns c = kept
