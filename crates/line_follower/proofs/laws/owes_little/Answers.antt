use Rattle.line_follower.proofs.Debts.{owes_little}
use Rattle.line_follower.proofs.laws.owes_little.Goals as goal

pub returns : goal.returns
returns c = owes_little
