use Rattle.recv_command.proofs.Joined.{past_is}
use Rattle.recv_command.proofs.laws.delivers_what_is_joined.Goals as goal

pub returns : goal.returns
returns c = past_is
