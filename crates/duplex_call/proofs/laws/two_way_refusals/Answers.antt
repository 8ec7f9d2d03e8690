use Rattle.duplex_call.proofs.Refusing.{none_where_near_of}
use Rattle.duplex_call.proofs.laws.two_way_refusals.Goals as goal

pub returns : goal.returns
returns g c side = none_where_near_of c.refusals.ensures.ideal side
