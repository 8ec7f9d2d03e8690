use Rattle.line_follower.proofs.Between.{never_beyond}
use Rattle.line_follower.proofs.laws.never_beyond.Goals as goal

pub returns : goal.returns
returns c = never_beyond
