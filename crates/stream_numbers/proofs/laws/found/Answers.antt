use Rattle.stream_numbers.proofs.Finding.{found}
use Rattle.stream_numbers.proofs.laws.found.Goals as goal

pub returns : goal.returns
returns c = found
