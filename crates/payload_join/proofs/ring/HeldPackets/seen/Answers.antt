use Rattle.payload_join.proofs.InSlots.{seen_is}
use Rattle.payload_join.proofs.ring.HeldPackets.seen.Goals as goal

pub returns : goal.returns
returns c =
    let s = c.self.inside in
    seen_is s.region s.slots.items s.parts.items c.args.number c.index.result.now s.top c.args.self.now c.self.invariant
    c.index.ensures c.self.view_is
