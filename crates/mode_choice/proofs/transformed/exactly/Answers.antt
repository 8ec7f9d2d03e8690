use Rattle.std.proofs.Common.{◌∙◌, ap, sym, subst, get_or, lit<, ℤ, pos}
use Rattle.h263_types.specs.Blocks.{IsCoefficient}
use Rattle.mode_choice.specs.Walk.{level_in}
use Rattle.mode_choice.proofs.Levels.{coefficient_kept, is_coefficient}
use Rattle.mode_choice.proofs.Walk.{is_forward_at}
use Rattle.mode_choice.proofs.transformed.exactly.Goals as goal

pub levels_in-marks-requires-clause-coefficients : goal.levels_in-marks-requires-clause-coefficients
levels_in-marks-requires-clause-coefficients c at h = is_coefficient c.forward-coefficients.result at h
    c.forward-coefficients.ensures.range

pub returns-clause-first : goal.returns-clause-first
returns-clause-first c =
    let ok = is_coefficient c.forward-coefficients.result 0 (lit< tt) c.forward-coefficients.ensures.range in
    coefficient_kept (get_or c.forward-coefficients.result 0 (pos 0)) ok
    ∙ c.forward-coefficients.ensures.coefficients 0 0 (lit< tt) (lit< tt)

pub returns-clause-first_range : goal.returns-clause-first_range
returns-clause-first_range c =
    let ok = is_coefficient c.forward-coefficients.result 0 (lit< tt) c.forward-coefficients.ensures.range in
    subst IsCoefficient (sym (coefficient_kept (get_or c.forward-coefficients.result 0 (pos 0)) ok)) ok

pub returns-clause-levels : goal.returns-clause-levels
returns-clause-levels c k h =
    c.levels_in-marks.ensures.levels k h
    ∙ ap (λ (f : ℤ). level_in c.args.coding c.args.quantisation.quant c.args.quantisation.keep f k)
    (is_forward_at c.forward-coefficients.result c.args.samples.now k c.forward-coefficients.ensures.coefficients)
