use Rattle.block_layer.proofs.FaultRows.{block_faults}
use Rattle.block_layer.proofs.laws.first_faults.Goals as goal

pub returns : goal.returns
returns c = block_faults c.in_a_syntax.ensures
