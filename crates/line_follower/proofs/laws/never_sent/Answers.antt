use Rattle.line_follower.proofs.Saying.{never_sent}
use Rattle.line_follower.proofs.laws.never_sent.Goals as goal

pub returns : goal.returns
returns c = never_sent
