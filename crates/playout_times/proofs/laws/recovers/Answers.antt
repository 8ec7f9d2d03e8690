use Rattle.playout_times.proofs.Recovering.{recovers}
use Rattle.playout_times.proofs.laws.recovers.Goals as goal

pub returns : goal.returns
returns c = recovers
