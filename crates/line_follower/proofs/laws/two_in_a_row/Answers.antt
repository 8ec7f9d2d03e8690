use Rattle.line_follower.proofs.Outliers.{two_in_a_row}
use Rattle.line_follower.proofs.laws.two_in_a_row.Goals as goal

pub returns : goal.returns
returns c = two_in_a_row
