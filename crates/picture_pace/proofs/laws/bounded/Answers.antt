use Rattle.picture_pace.proofs.Bounds.{sum_stays}
use Rattle.picture_pace.proofs.laws.bounded.Goals as goal

pub returns : goal.returns
returns c = sum_stays
