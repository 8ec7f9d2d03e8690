use Rattle.stream_numbers.proofs.Finding.{nearest_found}
use Rattle.stream_numbers.proofs.laws.nearest.Goals as goal

pub returns : goal.returns
returns c = nearest_found
