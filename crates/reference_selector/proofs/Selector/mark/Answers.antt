use Rattle.std.proofs.Common.{refl, arith}
use Rattle.reference_selector.proofs.Keeping.{marked, marked_far}
use Rattle.reference_selector.proofs.Selector.mark.Goals as goal

pub returns-then-sent-number-clause-known : goal.returns-then-sent-number-clause-known
returns-then-sent-number-clause-known c rules depth known stands =
    marked c.one_in_a_period.ensures rules c.args.self.now _ c.args.sent c.args.number depth known
    (omega (arith, c.args.self.now.room)) (omega arith) c.requires.below c.if-sent-number.true refl refl refl refl
    refl stands

pub returns-else-sent-number-clause-known : goal.returns-else-sent-number-clause-known
returns-else-sent-number-clause-known c rules depth known stands =
    marked_far rules c.args.self.now c.args.sent c.args.number depth known c.if-sent-number.false stands
