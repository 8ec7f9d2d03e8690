use Rattle.std.proofs.Common.{◌≡◌, None, false, length, refl, ap, ◌∙◌, arith}
use Rattle.std.specs.Prelude.{replicate}
use Rattle.std.proofs.lemmas.List.{length-replicate}
use Rattle.h263_region.specs.Slots.{zeros, count_of}
use Rattle.payload_join.specs.Ring.{slot_packets}
use Rattle.payload_join.proofs.InSlots.{none_are, ring_claimed}
use Rattle.payload_join.proofs.ring.HeldPackets.start.Goals as goal

pub invariant_of-result : goal.invariant_of-result
invariant_of-result c =
    let z : c.in-Ok.region ≡ zeros 65 65535 = c.in-Ok.ensures in
    let none : c.in_ok-parts.parts.items ≡ replicate 64 None = c.in_ok-parts.ensures.items in
    let e = c.claim_all.ensures in
    ring_claimed c.in-Ok.region c.claim_all.new.region c.claim_all.new.slots.items z e.held e.all e.size e.bytes e.count
    c.in_ok-parts.parts.items none

pub returns-in-Ok : goal.returns-in-Ok
returns-in-Ok c =
    let z : c.in-Ok.region ≡ zeros 65 65535 = c.in-Ok.ensures in
    let none : c.in_ok-parts.parts.items ≡ replicate 64 None = c.in_ok-parts.ensures.items in
    let e = c.claim_all.ensures in
    let many : length c.claim_all.new.slots.items ≡ 65 = e.all ∙ ap count_of z ∙ length-replicate 65 false in
    record {
      top = refl;
      packets = ap (slot_packets c.claim_all.new.region c.claim_all.new.slots.items) none
          ∙ none_are c.claim_all.new.region c.claim_all.new.slots.items 64 (omega arith);
    }
