use Rattle.slice_layer.proofs.FaultRows.{slice_faults}
use Rattle.slice_layer.proofs.laws.first_faults.Goals as goal

pub returns : goal.returns
returns c = slice_faults c.in_a_syntax.ensures
