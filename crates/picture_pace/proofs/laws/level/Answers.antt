use Rattle.picture_pace.proofs.Bounds.{level_stays}
use Rattle.picture_pace.proofs.laws.level.Goals as goal

pub returns : goal.returns
returns c = level_stays
