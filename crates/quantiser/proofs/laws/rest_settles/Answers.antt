use Rattle.quantiser.proofs.Settled.{rest_settled}
use Rattle.quantiser.proofs.laws.rest_settles.Goals as goal

pub returns : goal.returns
returns c = rest_settled
