use Rattle.std.proofs.Common.{sym, ◌∙◌}
use Rattle.payload_join.proofs.Following.{is_before, not_before, none_before}
use Rattle.payload_join.proofs.units.start_before.Goals as goal

pub returns-then-begins-clause-some : goal.returns-then-begins-clause-some
returns-then-begins-clause-some c =
    is_before c.args.ring.now.packets c.args.low c.args.number c.back.back c.back-test.true c.back.invariant
    (sym c.begins.ensures ∙ c.if-begins.true)

pub returns-then-not-follows-clause-none : goal.returns-then-not-follows-clause-none
returns-then-not-follows-clause-none c e =
    not_before c.args.ring.now.packets c.args.low c.args.number c.back.back c.back-test.true c.back.invariant
    (sym c.begins.ensures ∙ c.if-begins.false) (sym c.follows.ensures ∙ c.if-not-follows.true)

pub returns-clause-none : goal.returns-clause-none
returns-clause-none c e = none_before c.args.ring.now.packets c.args.low c.args.number c.back.back c.back-test.false
    c.back.invariant
