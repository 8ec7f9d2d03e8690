use Rattle.picture_pace.proofs.Orders.{larger_is_coarser}
use Rattle.picture_pace.proofs.laws.monotone.Goals as goal

pub returns : goal.returns
returns c = larger_is_coarser
