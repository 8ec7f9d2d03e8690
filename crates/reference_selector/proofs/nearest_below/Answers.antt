use Rattle.std.proofs.Common.{◌∙◌}
use Rattle.reference_selector.proofs.Nearest.{nearest_none, nearest_some, period_is}
use Rattle.reference_selector.proofs.nearest_below.Goals as goal

pub returns-then-first-period-clause-value : goal.returns-then-first-period-clause-value
returns-then-first-period-clause-value c rules half = nearest_none rules c.args.n c.args.reference c.from.result
    c.period-period.result (c.period-period.ensures
    ∙ period_is rules c.args.clock half) c.from.ensures c.if-first-period.true

pub returns-else-first-period-clause-value : goal.returns-else-first-period-clause-value
returns-else-first-period-clause-value c rules half = nearest_some rules c.args.n c.args.reference c.from.result
    c.period-period.result (c.period-period.ensures
    ∙ period_is rules c.args.clock half) c.from.ensures c.if-first-period.false
