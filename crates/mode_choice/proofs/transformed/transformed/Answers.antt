use Rattle.mode_choice.specs.Choice.{coefficient_at}
use Rattle.mode_choice.proofs.Sixteenths.{brackets}
use Rattle.mode_choice.proofs.transformed.transformed.Goals as goal

pub returns-then-sure-clause-levels : goal.returns-then-sure-clause-levels
returns-then-sure-clause-levels c k h =
    c.sure_levels_in-sure.ensures.levels c.if-sure.true k (coefficient_at c.args.samples.now k) h
    (brackets c.args.samples.now c.nearly-sixteenths.result c.near_brackets.ensures
    c.nearly-sixteenths.ensures.sixteenths k)
