use Rattle.std.proofs.Common.{◌≡◌, ◌-◌, ◌≤◌, length}
use Rattle.packet_cutter.specs.Kept.{most_bytes, room_for_packets, packet_count, kept_packets}
use Rattle.packet_cutter.specs.Taken.{unmarked}
use Rattle.packet_cutter.proofs.Turns.{IsUnderWay}
use Rattle.packet_cutter.proofs.cutter.cut.Given as goal

abbrev pub invariant-packets : goal.invariant-packets
invariant-packets l = record {
  under_way : IsUnderWay l.number l.sequence l.header (most_bytes l.initial.packets) (unmarked l.mbs) l.first
      (kept_packets l.packets);
  within : l.first ≤ length l.mbs;
  few : packet_count l.packets ≤ l.first;
  limit : most_bytes l.packets ≡ most_bytes l.initial.packets;
  room : room_for_packets l.packets ≡ room_for_packets l.initial.packets;
}

abbrev pub decreases-packets : goal.decreases-packets
decreases-packets l = length l.mbs - l.first
