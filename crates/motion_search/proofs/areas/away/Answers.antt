use Rattle.motion_search.proofs.AreaSums.{away_lanes}
use Rattle.motion_search.proofs.areas.away.Goals as goal

pub returns : goal.returns
returns c = λ f h e. away_lanes c.args.sums f c.args.sum c.requires h e
