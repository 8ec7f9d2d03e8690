use Rattle.line_follower.proofs.Choked.{choked_thrice}
use Rattle.line_follower.proofs.laws.choked_thrice.Goals as goal

pub returns : goal.returns
returns c = choked_thrice
