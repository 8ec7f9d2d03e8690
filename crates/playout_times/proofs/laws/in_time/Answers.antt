use Rattle.playout_times.proofs.Recovering.{in_time}
use Rattle.playout_times.proofs.laws.in_time.Goals as goal

pub returns : goal.returns
returns c = in_time
