use Rattle.packet_cutter.proofs.Places.{none_in}
use Rattle.packet_cutter.proofs.packets.Packets.start.Goals as goal

pub returns-clause-none : goal.returns-clause-none
returns-clause-none c = none_in _ _
