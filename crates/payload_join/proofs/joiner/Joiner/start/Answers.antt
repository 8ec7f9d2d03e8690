use Rattle.payload_join.specs.Ring.{IsEmptyRing}
use Rattle.payload_join.proofs.Taking.{shows_nothing}
use Rattle.payload_join.proofs.joiner.Joiner.start.Goals as goal

pub returns-clause-stands : goal.returns-clause-stands
returns-clause-stands c =
    let e : IsEmptyRing c.in_ok-ring.ring = c.in_ok-ring.ensures in
    shows_nothing c.in_ok-ring.ring.top c.in_ok-ring.ring.packets e.top e.packets
