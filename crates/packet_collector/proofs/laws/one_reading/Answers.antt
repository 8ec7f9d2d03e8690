use Rattle.std.proofs.Common.{ap}
use Rattle.h263_bits.specs.Reading.{first_fault}
use Rattle.packet_collector.proofs.Exact.{one_packet, packet_complete, no_fault}
use Rattle.packet_collector.proofs.laws.one_reading.Goals as goal

pub returns-clause-no_fault : goal.returns-clause-no_fault
returns-clause-no_fault c = λ format bytes. (
  λ e. no_fault c.part_laws.ensures format bytes e,
  λ is. ap first_fault (packet_complete c.part_laws.ensures format is.0 bytes is.1),
)

pub returns-clause-one : goal.returns-clause-one
returns-clause-one c = λ format s other bytes p q. one_packet c.part_laws.ensures format s other bytes p q
