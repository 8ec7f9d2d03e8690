use Rattle.payload_join.proofs.Few.{few_given}
use Rattle.payload_join.proofs.laws.few_given.Goals as goal

pub returns : goal.returns
returns c = few_given
