use Rattle.duplex_ends.specs.Ways.{sides}
use Rattle.duplex_ends.proofs.laws.refused_exactly.Goals as goal

pub returns : goal.returns
returns c = λ p. c.two_way_refusals.ensures (sides p)
