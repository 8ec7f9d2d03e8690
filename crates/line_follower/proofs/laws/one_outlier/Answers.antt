use Rattle.line_follower.proofs.Outliers.{one_outlier}
use Rattle.line_follower.proofs.laws.one_outlier.Goals as goal

pub returns : goal.returns
returns c = one_outlier
