use Rattle.packet_cutter.proofs.Counted.{packet_size}
use Rattle.packet_cutter.proofs.Sent.{packet_bits}
use Rattle.packet_cutter.proofs.laws.packet_is_text.Goals as goal

pub returns : goal.returns
returns c = record { bits = packet_bits c.read_again.ensures.many; bytes = packet_size }
