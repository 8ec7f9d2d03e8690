use Rattle.idct8.proofs.First.{first_apart}
use Rattle.idct8.proofs.laws.first_value_apart.Goals as goal

pub returns : goal.returns
returns c = first_apart
