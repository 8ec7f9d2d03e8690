use Rattle.picture_pace.proofs.Orders.{more_is_finer}
use Rattle.picture_pace.proofs.laws.generous.Goals as goal

pub returns : goal.returns
returns c = more_is_finer
