use Rattle.line_follower.proofs.Outliers.{late_alone}
use Rattle.line_follower.proofs.laws.late_alone.Goals as goal

pub returns : goal.returns
returns c = late_alone
