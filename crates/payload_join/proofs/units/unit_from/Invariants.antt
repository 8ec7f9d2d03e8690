use Rattle.payload_join.specs.Places.{window_packet}
use Rattle.payload_join.proofs.Following.{IsOpen}
use Rattle.payload_join.proofs.units.unit_from.Given as goal

abbrev pub invariant-next : goal.invariant-next
invariant-next l = IsOpen (window_packet l.ring.packets l.last) l.first l.follow
