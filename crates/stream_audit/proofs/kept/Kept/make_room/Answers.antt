use Rattle.std.proofs.Common.{◌≡◌, ℕ, ◌+◌, ◌-◌, false, sym, subst, arith}
use Rattle.packet_collector.specs.Collected.{Collects}
use Rattle.packet_collector.specs.Taken.{is_any_taken}
use Rattle.stream_audit.proofs.Beginning.{absent_after}
use Rattle.stream_audit.proofs.kept.Kept.make_room.Goals as goal

pub returns-then-self-gt0-clause-collects : goal.returns-then-self-gt0-clause-collects
returns-then-self-gt0-clause-collects c = λ taken collects.
    let k = c.args.self.now in
    let some = c.if-self-gt0.true in
    let back : k.pictures - 1 + 1 ≡ k.pictures = omega (arith, some) in
    subst (λ (n : ℕ). Collects c.advance.new.self n taken) back
    (c.advance.ensures.taken (k.pictures - 1) taken collects)

pub returns-then-self-gt0-clause-absent : goal.returns-then-self-gt0-clause-absent
returns-then-self-gt0-clause-absent c = λ taken collects first.
    let k = c.args.self.now in
    let some = c.if-self-gt0.true in
    absent_after c.what_is_taken.ensures k.collector (k.pictures - 1) k.pictures taken collects c.requires.row
    (omega (arith, some))

pub returns-else-self-gt0-clause-absent : goal.returns-else-self-gt0-clause-absent
returns-else-self-gt0-clause-absent c = λ taken collects first.
    let k = c.args.self.now in
    let none = c.if-self-gt0.false in
    let zero : k.pictures ≡ 0 = omega (arith, none) in
    subst (λ (n : ℕ). is_any_taken taken n ≡ false) (sym zero) (first zero)
