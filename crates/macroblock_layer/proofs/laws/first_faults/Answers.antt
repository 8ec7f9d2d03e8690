use Rattle.macroblock_layer.proofs.FaultRows.{mb_faults}
use Rattle.macroblock_layer.proofs.laws.first_faults.Goals as goal

pub returns : goal.returns
returns c = mb_faults c.in_a_syntax.ensures c.in_a_syntax-2.ensures
