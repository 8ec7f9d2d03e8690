use Rattle.playout_times.proofs.Following.{no_runs}
use Rattle.playout_times.proofs.runs.Runs.none.Goals as goal

pub returns : goal.returns
returns c = no_runs
