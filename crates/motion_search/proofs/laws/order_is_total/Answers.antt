use Rattle.motion_search.proofs.Orders.{total}
use Rattle.motion_search.proofs.laws.order_is_total.Goals as goal

pub returns-clause-total : goal.returns-clause-total
returns-clause-total c = total
