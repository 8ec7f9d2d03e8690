use Rattle.playout_times.proofs.Quarters.{nothing_stands}
use Rattle.playout_times.proofs.recent.Recent.none.Goals as goal

pub returns : goal.returns
returns c = nothing_stands
