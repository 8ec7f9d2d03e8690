use Rattle.std.proofs.Common.{ℕ, ℤ, ◌-◌, ◌%◌, ◌∙◌, ap, arith}
use Rattle.std.specs.Int.{int_signum}
use Rattle.std.proofs.lemmas.Int.{ints}
use Rattle.h263_types.specs.Blocks.{IsValue}
use Rattle.quantiser.proofs.Values.{kept_level, kept_value, same_product, same_sign, same_steps, same_value, kept_sum, sum_fits}
use Rattle.quantiser.proofs.value.Goals as goal

pub overflow_add-steps : goal.overflow_add-steps
overflow_add-steps c =
    let q : ℕ = c.args.quant in
    let z : ℤ = c.args.level in
    let level = kept_level z c.requires.level in
    let sign = c.from-sign.ensures ∙ same_sign z c.signum.result (c.signum.ensures.value ∙ ap int_signum level) in
    let steps = same_steps q z c.from.result c.from-2.result c.requires.quant.high c.requires.level c.from.ensures
    (c.from-2.ensures ∙ level) in
    let rest = same_product z _ _ (q - (1 - q % 2)) sign c.rest_of_value.ensures.rest
    (omega (arith, c.requires.quant.high)) in
    sum_fits q z _ _ c.requires.quant.low c.requires.quant.high c.requires.level steps rest

pub returns-clause-value : goal.returns-clause-value
returns-clause-value c =
    let q : ℕ = c.args.quant in
    let z : ℤ = c.args.level in
    let range : IsValue c.clamp.result = record {
      low = omega (arith, ints, c.clamp.ensures);
      high = omega (arith, ints, c.clamp.ensures);
    } in
    let level = kept_level z c.requires.level in
    let sign = c.from-sign.ensures ∙ same_sign z c.signum.result (c.signum.ensures.value ∙ ap int_signum level) in
    let steps = same_steps q z c.from.result c.from-2.result c.requires.quant.high c.requires.level c.from.ensures
    (c.from-2.ensures ∙ level) in
    let rest = same_product z _ _ (q - (1 - q % 2)) sign c.rest_of_value.ensures.rest
    (omega (arith, c.requires.quant.high)) in
    kept_value c.clamp.result range ∙ c.clamp.ensures.value
    ∙ same_value q z _ (kept_sum q z _ _ c.requires.quant.low c.requires.quant.high c.requires.level steps rest)
