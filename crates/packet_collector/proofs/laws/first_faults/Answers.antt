use Rattle.packet_collector.proofs.FaultRows.{first_faults}
use Rattle.packet_collector.proofs.laws.first_faults.Goals as goal

pub returns : goal.returns
returns c = first_faults c.part_laws.ensures c.faults_of_the_parts.ensures
