use Rattle.packet_gaps.proofs.Choosing.{in_time}
use Rattle.packet_gaps.proofs.laws.in_time.Goals as goal

pub returns : goal.returns
returns c = in_time
