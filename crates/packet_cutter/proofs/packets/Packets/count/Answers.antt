use Rattle.std.proofs.Common.{sym}
use Rattle.packet_cutter.proofs.Places.{length-packets}
use Rattle.packet_cutter.proofs.packets.Packets.count.Goals as goal

pub returns-clause-packets : goal.returns-clause-packets
returns-clause-packets c =
    sym (length-packets c.args.self.now.bytes.items.items c.args.self.now.places c.args.self.now.count)
