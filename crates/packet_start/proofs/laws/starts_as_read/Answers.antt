use Rattle.packet_start.proofs.Starts.{starts_as_read}
use Rattle.packet_start.proofs.laws.starts_as_read.Goals as goal

pub returns : goal.returns
returns c = starts_as_read
