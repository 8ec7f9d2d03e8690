use Rattle.std.proofs.Common.{ℕ, Some, None, ap, length, ◌∙◌}
use Rattle.payload_join.specs.Outgoing.{coded_one}
use Rattle.payload_join.proofs.InSlots.{seen_at, coded_is}
use Rattle.payload_join.proofs.ring.HeldPackets.coded_len.Goals as goal

pub returns-in-Some-clause-len : goal.returns-in-Some-clause-len
returns-in-Some-clause-len c =
    let s = c.self.inside in let o = Some c.in-Some.parts in
    coded_is s.region s.slots.items s.parts.items c.args.number c.index.result.now c.in-Some.parts c.self.invariant
    c.index.ensures c.in-Some.is
    ∙ ap (λ p. length {A = ℕ} (coded_one p))
    (seen_at s.region s.slots.items s.parts.items c.args.number c.index.result.now o c.self.invariant
    c.index.ensures c.in-Some.is c.self.view_is)

pub returns-in-None-clause-len : goal.returns-in-None-clause-len
returns-in-None-clause-len c =
    let s = c.self.inside in
    ap (λ p. length {A = ℕ} (coded_one p))
    (seen_at s.region s.slots.items s.parts.items c.args.number c.index.result.now None c.self.invariant
    c.index.ensures c.in-None.is c.self.view_is)
