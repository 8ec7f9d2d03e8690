-- The bytes of a packet that is held are copied to the place, and those before it stay.
use Rattle.std.proofs.Common.{ℕ, ◌+◌, Some, None, length, sym, ap, subst, ◌∙◌, arith}
use Rattle.h263_region.specs.Slots.{Slots, bytes_in}
use Rattle.payload_join.specs.Packet.{bytes_between}
use Rattle.payload_join.specs.Outgoing.{coded_one}
use Rattle.payload_join.specs.Places.{PacketPlaces, place_at, put_at}
use Rattle.payload_join.specs.Ring.{IsRing}
use Rattle.payload_join.proofs.Slots.{with_slot, put_none}
use Rattle.payload_join.proofs.InSlots.{seen, seen_at, slot_is, last_is, placed_at, coded_is, room_ring, room_seen}
use Rattle.payload_join.proofs.ring.HeldPackets.copy_coded.Goals as goal

pub returns-in-None-clause-room : goal.returns-in-None-clause-room
returns-in-None-clause-room c =
    let s = c.self.inside in let t = c.args.self.now in
    let none = ap coded_one (seen_at s.region s.slots.items s.parts.items c.args.number c.index.result.now None
    c.self.invariant c.index.ensures c.in-None.is c.self.view_is) in
    let room = sym (put_none t.room c.args.at) ∙ ap (put_at t.room c.args.at) none in
    λ i. record { top = t.top; packets = t.packets; room = room i }

pub returns-in-None-clause-end : goal.returns-in-None-clause-end
returns-in-None-clause-end c =
    let s = c.self.inside in
    let none = ap (λ q. length {A = ℕ} (coded_one q))
    (seen_at s.region s.slots.items s.parts.items c.args.number c.index.result.now None c.self.invariant
    c.index.ensures c.in-None.is c.self.view_is) in
    omega (arith, none)

pub copy-requires-clause-room : goal.copy-requires-clause-room
copy-requires-clause-room c =
    let s = c.self.inside in let p = c.in-Some.parts in let size = c.self.invariant.size in let room = c.requires in
    let long = coded_is s.region s.slots.items s.parts.items c.args.number c.index.result.now p c.self.invariant
    c.index.ensures c.in-Some.is
    ∙ ap (λ q. length {A = ℕ} (coded_one q))
    (seen_at s.region s.slots.items s.parts.items c.args.number c.index.result.now (Some p) c.self.invariant
    c.index.ensures c.in-Some.is c.self.view_is) in
    omega arith

pub overflow_sub-result : goal.overflow_sub-result
overflow_sub-result c =
    let s = c.self.inside in
    (placed_at s.region s.slots.items s.parts.items c.args.number c.index.result.now c.in-Some.parts c.self.invariant
    c.index.ensures c.in-Some.is).order

pub invariant_of-self : goal.invariant_of-self
invariant_of-self c =
    let s = c.self.inside in let p = c.in-Some.parts in let at = c.args.at in
    let read = slot_is s.region s.slots.items s.parts.items c.args.number c.index-2.result.now c.self.invariant
    c.index-2.ensures in
    let last = last_is s.region s.slots.items s.parts.items c.index-3.result.now c.self.invariant c.index-3.ensures in
    let packet = seen_at s.region s.slots.items s.parts.items c.args.number c.index.result.now (Some p) c.self.invariant
    c.index.ensures c.in-Some.is c.self.view_is in
    let coded = ap (λ (k : ℕ). bytes_between (bytes_in s.region k) p.coded_from p.to) read ∙ ap coded_one packet in
    let new = c.copy.ensures
    ∙ (λ i. with_slot s.region (last i) (put_at (bytes_in s.region (last i)) at (coded i))) in
    subst (λ (t : Slots). IsRing t s.slots.items s.parts.items) (sym new)
    (room_ring s.region s.slots.items s.parts.items at (coded_one (place_at c.args.self.now.packets c.args.number))
    c.self.invariant c.requires)

pub returns-clause-room : goal.returns-clause-room
returns-clause-room c =
    let s = c.self.inside in let p = c.in-Some.parts in let at = c.args.at in
    let all = coded_one (place_at c.args.self.now.packets c.args.number) in
    let read = slot_is s.region s.slots.items s.parts.items c.args.number c.index-2.result.now c.self.invariant
    c.index-2.ensures in
    let last = last_is s.region s.slots.items s.parts.items c.index-3.result.now c.self.invariant c.index-3.ensures in
    let packet = seen_at s.region s.slots.items s.parts.items c.args.number c.index.result.now (Some p) c.self.invariant
    c.index.ensures c.in-Some.is c.self.view_is in
    let coded = ap (λ (k : ℕ). bytes_between (bytes_in s.region k) p.coded_from p.to) read ∙ ap coded_one packet in
    let new = c.copy.ensures
    ∙ (λ i. with_slot s.region (last i) (put_at (bytes_in s.region (last i)) at (coded i))) in
    ap (λ (t : Slots). seen s.top t s.slots.items s.parts.items) new
    ∙ room_seen s.top s.region s.slots.items s.parts.items at all c.self.invariant
    ∙ ap (λ (t : PacketPlaces). record t { room = put_at t.room at all }) c.self.view_is

pub returns-clause-end : goal.returns-clause-end
returns-clause-end c =
    let s = c.self.inside in let p = c.in-Some.parts in
    ap (λ (k : ℕ). c.args.at + k) (coded_is s.region s.slots.items s.parts.items c.args.number c.index.result.now p
    c.self.invariant c.index.ensures c.in-Some.is
    ∙ ap (λ q. length {A = ℕ} (coded_one q))
    (seen_at s.region s.slots.items s.parts.items c.args.number c.index.result.now (Some p) c.self.invariant
    c.index.ensures c.in-Some.is c.self.view_is))
