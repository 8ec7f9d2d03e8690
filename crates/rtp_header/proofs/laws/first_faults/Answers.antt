use Rattle.rtp_header.proofs.FaultRows.{first_faults}
use Rattle.rtp_header.proofs.laws.first_faults.Goals as goal

pub returns : goal.returns
returns c = first_faults
