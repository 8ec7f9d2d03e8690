use Rattle.playout_times.proofs.Recovering.{least_is_least}
use Rattle.playout_times.proofs.laws.least.Goals as goal

pub returns : goal.returns
returns c = least_is_least
