use Rattle.std.proofs.Common.{ap}
use Rattle.h263_bits.specs.Reading.{first_fault}
use Rattle.packet_collector.proofs.Exact.{packet_sound, packet_complete, no_fault}
use Rattle.packet_collector.proofs.laws.exact_text.Goals as goal

pub returns-clause-read : goal.returns-clause-read
returns-clause-read c = λ format s bytes. (
  λ e. packet_sound c.part_laws.ensures format s bytes e,
  λ is. packet_complete c.part_laws.ensures format s bytes is,
)

pub returns-clause-no_fault : goal.returns-clause-no_fault
returns-clause-no_fault c = λ format bytes. (
  λ e. no_fault c.part_laws.ensures format bytes e,
  λ is. ap first_fault (packet_complete c.part_laws.ensures format is.0 bytes is.1),
)
