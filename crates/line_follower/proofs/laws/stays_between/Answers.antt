use Rattle.line_follower.proofs.Between.{stays_between}
use Rattle.line_follower.proofs.laws.stays_between.Goals as goal

pub returns : goal.returns
returns c = stays_between
