use Rattle.std.proofs.Common.{◌≡◌, ◌*◌, ◌≤◌, length}
use Rattle.payload_join.specs.Outgoing.{coded_from}
use Rattle.payload_join.specs.Places.{place_at}
use Rattle.payload_join.proofs.units.coded_len.Given as goal

abbrev pub invariant-packets : goal.invariant-packets
invariant-packets l = (l.len ≡ length (coded_from (place_at l.ring.packets) l.number l.k)) × (l.len ≤ 65535 * l.k)
