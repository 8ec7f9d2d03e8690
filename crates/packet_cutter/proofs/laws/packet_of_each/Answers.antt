use Rattle.packet_cutter.proofs.Sent.{length-packets_of, packet_at_is, no_packet, wraps}
use Rattle.packet_cutter.proofs.laws.packet_of_each.Goals as goal

pub returns : goal.returns
returns c = record { count = length-packets_of; each = packet_at_is; none = no_packet; wraps = wraps }
