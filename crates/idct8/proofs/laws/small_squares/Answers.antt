use Rattle.idct8.proofs.Parity.{coefficient_small}
use Rattle.idct8.proofs.laws.small_squares.Goals as goal

pub returns : goal.returns
returns c = coefficient_small
