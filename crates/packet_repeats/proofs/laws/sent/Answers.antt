use Rattle.packet_repeats.proofs.Found.{sent}
use Rattle.packet_repeats.proofs.laws.sent.Goals as goal

pub returns : goal.returns
returns c = sent
