use Rattle.back_messages.proofs.FaultRows.{bytes_faults, field_faults}
use Rattle.back_messages.proofs.laws.first_faults.Goals as goal

pub returns : goal.returns
returns c = record { bytes = bytes_faults; field = field_faults }
