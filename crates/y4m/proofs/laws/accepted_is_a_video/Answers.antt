use Rattle.y4m.proofs.Videos.{accepted}
use Rattle.y4m.proofs.laws.accepted_is_a_video.Goals as goal

pub returns : goal.returns
returns c = accepted
