use Rattle.motion_search.proofs.AreaSums.{loaded_sums}
use Rattle.motion_search.proofs.areas.sums_at.Goals as goal

pub returns : goal.returns
returns c = loaded_sums c.args.sums.now c.args.at c.requires
