use Rattle.packet_repeats.proofs.Found.{newest}
use Rattle.packet_repeats.proofs.laws.newest.Goals as goal

pub returns : goal.returns
returns c = newest
