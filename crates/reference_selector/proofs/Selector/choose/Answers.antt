use Rattle.std.proofs.Common.{◌∙◌, sym, inl, inr}
use Rattle.reference_selector.proofs.Keeping.{known_here, looked_more, chosen_some, chosen_none, none_here}
use Rattle.reference_selector.proofs.Selector.choose.Goals as goal

pub loop-back-preserved : goal.loop-back-preserved
loop-back-preserved c rules depth known stands =
    looked_more known c.args.number c.loop-back.back c.if-number-back.false
    (c.loop-back.invariant rules depth known stands)
    (sym (known_here rules c.args.self.now c.args.number c.loop-back.back depth known stands c.if-number-back.false
    c.loop-back-test.true) ∙ c.if-self-at.false)

pub returns-then-number-back : goal.returns-then-number-back
returns-then-number-back c rules depth known stands =
    sym (none_here rules c.args.self.now c.args.number c.loop-back.back depth known stands (inl c.if-number-back.true)
    (c.loop-back.invariant rules depth known stands))

pub returns-then-self-at-lt-CHAIN : goal.returns-then-self-at-lt-CHAIN
returns-then-self-at-lt-CHAIN c rules depth known stands =
    chosen_some rules c.args.self.now c.args.number c.loop-back.back depth known stands c.if-number-back.false
    c.loop-back-test.true (c.loop-back.invariant rules depth known stands) c.if-self-at.true
    c.if-self-at-lt-CHAIN.true

pub returns-else-self-at-lt-CHAIN : goal.returns-else-self-at-lt-CHAIN
returns-else-self-at-lt-CHAIN c rules depth known stands =
    chosen_none rules c.args.self.now c.args.number c.loop-back.back depth known stands c.if-number-back.false
    c.loop-back-test.true (c.loop-back.invariant rules depth known stands) c.if-self-at.true
    c.if-self-at-lt-CHAIN.false

pub returns : goal.returns
returns c rules depth known stands =
    sym (none_here rules c.args.self.now c.args.number c.loop-back.back depth known stands (inr c.loop-back-test.false)
    (c.loop-back.invariant rules depth known stands))
