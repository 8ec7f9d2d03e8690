use Rattle.std.proofs.Common.{◌≡◌, ◌+◌, length}
use Rattle.payload_join.specs.Packet.{bytes_between}
use Rattle.payload_join.specs.Outgoing.{coded_from}
use Rattle.payload_join.specs.Places.{place_at}
use Rattle.payload_join.proofs.giving.gather.Given as goal

abbrev pub invariant-packets : goal.invariant-packets
invariant-packets l = record {
  top : l.ring.top ≡ l.initial.ring.top;
  packets : l.ring.packets ≡ l.initial.ring.packets;
  size : length l.ring.room ≡ 65535;
  end : l.at ≡ 77 + length (coded_from (place_at l.initial.ring.packets) l.number l.k);
  coded : bytes_between l.ring.room 77 l.at ≡ coded_from (place_at l.initial.ring.packets) l.number l.k;
}
