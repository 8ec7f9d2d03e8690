-- A packet that can be read is held, is old, or comes again, as the run of the joiner has it.
use Rattle.std.proofs.Common.{sym, subst, ◌∙◌, arith, Option, Some, List, ◌∷◌, ℕ}
use Rattle.payload_join.specs.Packet.{Packet}
use Rattle.payload_join.specs.Parts.{packet_from_parts}
use Rattle.payload_join.specs.Places.{top_after, Shows}
use Rattle.payload_join.specs.Run.{joined_by}
use Rattle.payload_join.specs.Units.{HasMade}
use Rattle.payload_join.proofs.Taking.{considered, answered, not_stands, not_left, held_stands, held_left}
use Rattle.payload_join.proofs.joiner.Joiner.consider.Goals as goal

pub returns-then-not-is_held-clause-answer : goal.returns-then-not-is_held-clause-answer
returns-then-not-is_held-clause-answer c past shows =
    let t = c.args.self.now in let bytes = c.args.bytes.now in
    let p = packet_from_parts c.args.bytes.now c.args.parts in
    let is = considered _ t bytes p c.judge-took.result c.self.view_is c.requires.read
    (omega arith) c.judge-took.ensures.answer c.judge-took.ensures.many in
    answered t.top t.packets bytes p c.judge-took.result is past shows

pub returns-then-not-is_held-clause-stands : goal.returns-then-not-is_held-clause-stands
returns-then-not-is_held-clause-stands c past shows =
    let t = c.args.self.now in let bytes = c.args.bytes.now in
    let p = packet_from_parts c.args.bytes.now c.args.parts in
    let is = considered _ t bytes p c.judge-took.result c.self.view_is c.requires.read
    (omega arith) c.judge-took.ensures.answer c.judge-took.ensures.many in
    not_stands t.top t.packets bytes p c.judge-took.result is past shows (sym c.is_held.ensures ∙ c.if-not-is_held.true)

pub returns-then-not-is_held-clause-left : goal.returns-then-not-is_held-clause-left
returns-then-not-is_held-clause-left c past shows =
    let t = c.args.self.now in let bytes = c.args.bytes.now in
    let p = packet_from_parts c.args.bytes.now c.args.parts in
    let is = considered _ t bytes p c.judge-took.result c.self.view_is c.requires.read
    (omega arith) c.judge-took.ensures.answer c.judge-took.ensures.many in
    c.requires.left ∙ not_left t.top t.packets bytes p c.judge-took.result is past shows c.args.format
    (sym c.is_held.ensures ∙ c.if-not-is_held.true)

pub returns-clause-answer : goal.returns-clause-answer
returns-clause-answer c past shows =
    let t = c.args.self.now in let bytes = c.args.bytes.now in
    let p = packet_from_parts c.args.bytes.now c.args.parts in
    let is = considered _ t bytes p c.judge-took.result c.self.view_is c.requires.read
    (omega arith) c.judge-took.ensures.answer c.judge-took.ensures.many in
    answered t.top t.packets bytes p c.judge-took.result is past shows

pub returns-clause-stands : goal.returns-clause-stands
returns-clause-stands c past shows =
    let t = c.args.self.now in let bytes = c.args.bytes.now in
    let p = packet_from_parts c.args.bytes.now c.args.parts in
    let is = considered _ t bytes p c.judge-took.result c.self.view_is c.requires.read
    (omega arith) c.judge-took.ensures.answer c.judge-took.ensures.many in
    subst (λ (o : Option ℕ). Shows o c.hold.new.self.packets (joined_by (bytes ∷ past))) (sym c.hold.ensures.top)
    (subst (λ (l : List (Option Packet)). Shows (Some (top_after t.top c.args.parts.sequence)) l
    (joined_by (bytes ∷ past))) (sym c.hold.ensures.packets)
    (held_stands t.top t.packets bytes p c.judge-took.result is past shows (sym c.is_held.ensures
    ∙ c.if-not-is_held.false)))

pub returns-clause-left : goal.returns-clause-left
returns-clause-left c past shows =
    let t = c.args.self.now in let bytes = c.args.bytes.now in
    let p = packet_from_parts c.args.bytes.now c.args.parts in
    let is = considered _ t bytes p c.judge-took.result c.self.view_is c.requires.read
    (omega arith) c.judge-took.ensures.answer c.judge-took.ensures.many in
    held_left t.top t.packets bytes p c.judge-took.result is past shows c.args.format c.hold.new.self.left
    (sym c.is_held.ensures ∙ c.if-not-is_held.false)
    (subst (λ (l : List (Option Packet)). HasMade c.args.format t.top c.args.parts.sequence l c.hold.new.self.left)
    c.hold.ensures.packets c.hold.ensures.left)
