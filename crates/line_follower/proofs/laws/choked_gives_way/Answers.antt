use Rattle.line_follower.proofs.Choked.{choked_gives_way}
use Rattle.line_follower.proofs.laws.choked_gives_way.Goals as goal

pub returns : goal.returns
returns c = choked_gives_way
