use Rattle.packet_start.proofs.Starts.{start_is_of_format}
use Rattle.packet_start.proofs.laws.start_is_of_format.Goals as goal

pub returns : goal.returns
returns c = start_is_of_format c.exact_text.ensures.read
