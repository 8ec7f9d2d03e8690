use Rattle.std.proofs.Common.{ℕ, Option, ap, sym, ◌∙◌}
use Rattle.payload_join.specs.Places.{PacketPlaces, packet_judged}
use Rattle.payload_join.specs.Ring.{slot_packets}
use Rattle.payload_join.proofs.InSlots.{judged_again, judged_fresh, some_seen, many_places}
use Rattle.payload_join.proofs.ring.HeldPackets.judge.Goals as goal

pub returns-then-is_some-clause-answer : goal.returns-then-is_some-clause-answer
returns-then-is_some-clause-answer c =
    let s = c.self.inside in let sequence = c.args.sequence in
    sym (
    ap (λ (t : PacketPlaces). packet_judged t.top t.packets sequence) (sym c.self.view_is)
    ∙ ap (λ (o : Option ℕ). packet_judged o (slot_packets s.region s.slots.items s.parts.items) sequence) c.in-Some.is
    ∙ judged_again (slot_packets s.region s.slots.items s.parts.items) c.in-Some.top sequence c.reach-reach.result
    c.reach-reach.ensures.exact c.if-reach-le32768.false c.if-reach-gt32768.false
    (some_seen s.region s.slots.items s.parts.items sequence c.index.result.now c.self.invariant c.index.ensures
    ∙ sym c.is_some.ensures ∙ c.if-is_some.true)
    )

pub returns-clause-answer : goal.returns-clause-answer
returns-clause-answer c =
    let s = c.self.inside in let sequence = c.args.sequence in
    sym (
    ap (λ (t : PacketPlaces). packet_judged t.top t.packets sequence) (sym c.self.view_is)
    ∙ ap (λ (o : Option ℕ). packet_judged o (slot_packets s.region s.slots.items s.parts.items) sequence) c.in-Some.is
    ∙ judged_fresh (slot_packets s.region s.slots.items s.parts.items) c.in-Some.top sequence c.reach-reach.result
    c.reach-reach.ensures.exact c.if-reach-le32768.false c.if-reach-gt32768.false
    (some_seen s.region s.slots.items s.parts.items sequence c.index.result.now c.self.invariant c.index.ensures
    ∙ sym c.is_some.ensures ∙ c.if-is_some.false)
    )

pub returns-in_default-clause-many : goal.returns-in_default-clause-many
returns-in_default-clause-many c = let s = c.self.inside in
    many_places s.region s.slots.items s.parts.items s.top c.args.self.now c.self.invariant c.self.view_is

pub returns-then-reach-le32768-clause-many : goal.returns-then-reach-le32768-clause-many
returns-then-reach-le32768-clause-many c = let s = c.self.inside in
    many_places s.region s.slots.items s.parts.items s.top c.args.self.now c.self.invariant c.self.view_is

pub returns-then-reach-gt32768-clause-many : goal.returns-then-reach-gt32768-clause-many
returns-then-reach-gt32768-clause-many c = let s = c.self.inside in
    many_places s.region s.slots.items s.parts.items s.top c.args.self.now c.self.invariant c.self.view_is

pub returns-then-is_some-clause-many : goal.returns-then-is_some-clause-many
returns-then-is_some-clause-many c = let s = c.self.inside in
    many_places s.region s.slots.items s.parts.items s.top c.args.self.now c.self.invariant c.self.view_is

pub returns-clause-many : goal.returns-clause-many
returns-clause-many c = let s = c.self.inside in
    many_places s.region s.slots.items s.parts.items s.top c.args.self.now c.self.invariant c.self.view_is
