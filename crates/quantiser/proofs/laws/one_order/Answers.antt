use Rattle.quantiser.proofs.Orders.{from_order, from_block}
use Rattle.quantiser.proofs.laws.one_order.Goals as goal

pub returns : goal.returns
returns c = record { from_order = from_order; from_block = from_block }
