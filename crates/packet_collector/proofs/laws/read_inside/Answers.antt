use Rattle.packet_collector.proofs.Exact.{packet_sound, packet_inside}
use Rattle.packet_collector.proofs.laws.read_inside.Goals as goal

pub returns-clause-format : goal.returns-clause-format
returns-clause-format c =
    λ format s bytes e. (packet_inside format s bytes (packet_sound c.part_laws.ensures format s bytes e)).format_is

pub returns-clause-inside : goal.returns-clause-inside
returns-clause-inside c = λ format s bytes e.
    let inside = packet_inside format s bytes (packet_sound c.part_laws.ensures format s bytes e) in
    (inside.some, inside.within)
