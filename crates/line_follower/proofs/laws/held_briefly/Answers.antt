use Rattle.line_follower.proofs.Choked.{held_briefly}
use Rattle.line_follower.proofs.laws.held_briefly.Goals as goal

pub returns : goal.returns
returns c = held_briefly
