-- The packet's slot has it, and those of numbers that are too far below the greatest are empty.
use Rattle.std.proofs.Common.{◌≡◌, ℕ, ◌%◌, List, Option, Some, length, get_or, set, sym, ap, subst, ◌∙◌}
use Rattle.std.proofs.lemmas.List.{with_items_is}
use Rattle.std.specs.Vec.{with_items}
use Rattle.h263_region.specs.Slots.{Slots, bytes_in}
use Rattle.payload_join.specs.declared.parts.Parts.{Parts}
use Rattle.payload_join.specs.Parts.{packet_from_parts}
use Rattle.payload_join.specs.Places.{PacketPlaces, left_at, put_at, top_after, holding}
use Rattle.payload_join.specs.Ring.{IsRing}
use Rattle.payload_join.proofs.Slots.{with_slot}
use Rattle.payload_join.proofs.InSlots.{seen, many_left, ring_held, held_is, slot_is}
use Rattle.payload_join.proofs.ring.HeldPackets.hold.Goals as goal

pub invariant_of-self : goal.invariant_of-self
invariant_of-self c =
    let s = c.self.inside in let sequence = c.args.parts.sequence in let bytes = c.args.bytes.now in
    let items = s.parts.items in
    let slot = c.index.result.now in
    let left = c.forget.ensures
    ∙ ap (λ (l : List (Option Parts)). left_at s.top l sequence) c.deref_mut.ensures.value in
    let long = ap (length {A = Option Parts}) left ∙ many_left s.top items sequence ∙ sym s.parts.ok.0 in
    let kept = with_items_is s.parts c.forget.new.parts long ∙ left in
    let is_slot = slot_is s.region s.slots.items items sequence slot c.self.invariant c.index.ensures in
    subst (λ (t : Slots). IsRing t s.slots.items (set (with_items s.parts c.forget.new.parts).items (sequence % 64)
    (Some c.args.parts))) (sym c.put.ensures)
    (subst (λ (k : ℕ). IsRing (with_slot s.region k (put_at (bytes_in s.region k) 0 bytes)) s.slots.items
    (set (with_items s.parts c.forget.new.parts).items (sequence % 64) (Some c.args.parts))) (sym is_slot)
    (subst (λ (l : List (Option Parts)). IsRing (with_slot s.region (get_or s.slots.items (sequence % 64) 0)
    (put_at (bytes_in s.region (get_or s.slots.items (sequence % 64) 0)) 0 bytes)) s.slots.items
    (set l (sequence % 64) (Some c.args.parts))) (sym kept)
    (ring_held s.region s.slots.items items bytes s.top sequence c.args.parts c.self.invariant c.requires)))

pub returns-clause-holds : goal.returns-clause-holds
returns-clause-holds c =
    let s = c.self.inside in let sequence = c.args.parts.sequence in let bytes = c.args.bytes.now in
    let items = s.parts.items in
    let slot = c.index.result.now in
    let p = c.args.parts in
    let left = c.forget.ensures
    ∙ ap (λ (l : List (Option Parts)). left_at s.top l sequence) c.deref_mut.ensures.value in
    let long = ap (length {A = Option Parts}) left ∙ many_left s.top items sequence ∙ sym s.parts.ok.0 in
    let kept = with_items_is s.parts c.forget.new.parts long ∙ left in
    let is_slot = slot_is s.region s.slots.items items sequence slot c.self.invariant c.index.ensures in
    let written : seen (Some c.greatest-top.result) c.put.new.region s.slots.items
    (set (with_items s.parts c.forget.new.parts).items (sequence % 64) (Some p))
    ≡ seen (Some (top_after s.top sequence)) (with_slot s.region slot (put_at (bytes_in s.region slot) 0 bytes))
    s.slots.items (set (left_at s.top items sequence) (sequence % 64) (Some p)) =
    λ i. seen (Some (c.greatest-top.ensures i)) (c.put.ensures i) s.slots.items (set (kept i) (sequence % 64) (Some p))
    in
    written
    ∙ ap (λ (k : ℕ). seen (Some (top_after s.top sequence))
    (with_slot s.region k (put_at (bytes_in s.region k) 0 bytes)) s.slots.items
    (set (left_at s.top items sequence) (sequence % 64) (Some p))) is_slot
    ∙ held_is s.region s.slots.items items s.top bytes sequence p c.self.invariant c.requires
    ∙ ap (λ (t : PacketPlaces). holding t sequence (packet_from_parts bytes p)) c.self.view_is
