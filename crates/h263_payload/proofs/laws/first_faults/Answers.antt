use Rattle.h263_payload.proofs.FaultRows.{first_faults, p_row}
use Rattle.h263_payload.proofs.laws.first_faults.Goals as goal

pub returns : goal.returns
returns c = record { whole = first_faults c.in_a_syntax.ensures; follow_on = p_row }
