use Rattle.std.proofs.Common.{sym, ap, subst, ◌∙◌}
use Rattle.h263_region.specs.Slots.{Slots, bytes_in}
use Rattle.payload_join.specs.Places.{PacketPlaces, put_at}
use Rattle.payload_join.specs.Ring.{IsRing}
use Rattle.payload_join.proofs.Slots.{with_slot}
use Rattle.payload_join.proofs.InSlots.{seen, last_is, room_ring, room_seen}
use Rattle.payload_join.proofs.ring.HeldPackets.write.Goals as goal

pub invariant_of-self : goal.invariant_of-self
invariant_of-self c =
    let s = c.self.inside in let at = c.args.at in let bytes = c.args.bytes.now in
    let slot = last_is s.region s.slots.items s.parts.items c.index.result.now c.self.invariant c.index.ensures in
    let new = c.put.ensures ∙ ap (λ k. with_slot s.region k (put_at (bytes_in s.region k) at bytes)) slot in
    subst (λ (t : Slots). IsRing t s.slots.items s.parts.items) (sym new)
    (room_ring s.region s.slots.items s.parts.items at bytes c.self.invariant c.requires)

pub returns : goal.returns
returns c =
    let s = c.self.inside in let at = c.args.at in let bytes = c.args.bytes.now in
    let slot = last_is s.region s.slots.items s.parts.items c.index.result.now c.self.invariant c.index.ensures in
    let new = c.put.ensures ∙ ap (λ k. with_slot s.region k (put_at (bytes_in s.region k) at bytes)) slot in
    ap (λ (t : Slots). seen s.top t s.slots.items s.parts.items) new
    ∙ room_seen s.top s.region s.slots.items s.parts.items at bytes c.self.invariant
    ∙ ap (λ (t : PacketPlaces). record t { room = put_at t.room at bytes }) c.self.view_is
