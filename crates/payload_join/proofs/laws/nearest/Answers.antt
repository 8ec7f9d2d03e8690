use Rattle.payload_join.proofs.Nearest.{number_laws}
use Rattle.payload_join.proofs.laws.nearest.Goals as goal

pub returns : goal.returns
returns c = number_laws
