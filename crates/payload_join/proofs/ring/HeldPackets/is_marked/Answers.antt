use Rattle.std.proofs.Common.{Some, None, ap}
use Rattle.payload_join.specs.Unit.{is_marked}
use Rattle.payload_join.proofs.InSlots.{seen_at}
use Rattle.payload_join.proofs.ring.HeldPackets.is_marked.Goals as goal

pub returns-in-Some : goal.returns-in-Some
returns-in-Some c =
    let s = c.self.inside in
    ap is_marked (seen_at s.region s.slots.items s.parts.items c.args.number c.index.result.now
    (Some c.in-Some.parts) c.self.invariant c.index.ensures c.in-Some.is c.self.view_is)

pub returns-in-None : goal.returns-in-None
returns-in-None c =
    let s = c.self.inside in
    ap is_marked (seen_at s.region s.slots.items s.parts.items c.args.number c.index.result.now None c.self.invariant
    c.index.ensures c.in-None.is c.self.view_is)
