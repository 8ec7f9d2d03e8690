use Rattle.picture_header.proofs.FaultRows.{header_faults}
use Rattle.picture_header.proofs.laws.first_faults.Goals as goal

pub returns : goal.returns
returns c = header_faults c.in_a_syntax.ensures
