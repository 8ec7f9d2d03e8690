use Rattle.motion_search.proofs.AreaSums.{loaded}
use Rattle.motion_search.proofs.areas.widened.Goals as goal

pub returns : goal.returns
returns c f same = loaded c.args.samples.now f c.requires same
