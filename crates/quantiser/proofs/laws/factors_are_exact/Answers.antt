use Rattle.quantiser.proofs.Quotients.{exact}
use Rattle.quantiser.proofs.laws.factors_are_exact.Goals as goal

pub returns : goal.returns
returns c = exact
