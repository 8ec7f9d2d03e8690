use Rattle.std.proofs.Common.{◌-◌, Some, None, ap, take, drop, ◌∙◌}
use Rattle.h263_region.specs.Slots.{bytes_in}
use Rattle.payload_join.specs.Ring.{extra_one}
use Rattle.payload_join.proofs.InSlots.{seen_at, slot_is}
use Rattle.payload_join.proofs.ring.HeldPackets.extra.Goals as goal

pub returns-in-Some : goal.returns-in-Some
returns-in-Some c =
    let s = c.self.inside in let p = c.in-Some.parts in
    let slot = slot_is s.region s.slots.items s.parts.items c.args.number c.index-in-Some.result.now c.self.invariant
    c.index-in-Some.ensures in
    ap (λ l. take (p.coded_from - p.extra_from) (drop p.extra_from l)) (c.bytes-bytes.ensures.value
    ∙ ap (bytes_in s.region) slot)
    ∙ ap extra_one (seen_at s.region s.slots.items s.parts.items c.args.number c.index.result.now
    (Some p) c.self.invariant c.index.ensures c.in-Some.is c.self.view_is)

pub returns-in-None : goal.returns-in-None
returns-in-None c =
    let s = c.self.inside in
    ap extra_one (seen_at s.region s.slots.items s.parts.items c.args.number c.index.result.now None c.self.invariant
    c.index.ensures c.in-None.is c.self.view_is)
