use Rattle.line_follower.proofs.Saying.{told_twice}
use Rattle.line_follower.proofs.laws.told_twice.Goals as goal

pub returns : goal.returns
returns c = told_twice
