use Rattle.std.proofs.Common.{◌≡◌, ◌*◌, ◌≤◌, take}
use Rattle.packet_cutter.specs.Cutting.{cutter_packets}
use Rattle.call_model.specs.Sending.{bytes_together}
use Rattle.sender_end.proofs.coding.size_of.Given as goal

-- the bytes of the packets before `i`
abbrev pub invariant-loop-i : goal.invariant-loop-i
invariant-loop-i l = (l.size ≡ bytes_together (take l.i (cutter_packets l.cutter))) × (l.size ≤ 9000 * l.i)
