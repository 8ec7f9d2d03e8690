-- The product with the factor is the quotient of the sixteenths, and what it leaves is their rest.
use Rattle.std.proofs.Common.{◌∙◌, ◌*◌, ◌/◌, ◌-◌, ◌<◌, ◌≤◌, ap, arith, subst, sym, ℕ, min}
use Rattle.std.proofs.Math.Nat.{div-mul-le_self}
use Rattle.quantiser.proofs.Quotients.{product_quotient, product_steps, rest_after, shift_small}
use Rattle.quantiser.proofs.coefficients.steps_and_rest.Goals as goal

pub overflow_add-steps : goal.overflow_add-steps
overflow_add-steps c = record {
  fits = omega (
    arith,
    shift_small c.args.quant c.args.factor.shift c.requires.quant c.requires.factor.shift.least,
  );
}

pub overflow_cast-steps-2 : goal.overflow_cast-steps-2
overflow_cast-steps-2 c =
    record {
      fits = omega (
        arith,
        shift_small c.args.quant c.args.factor.shift c.requires.quant c.requires.factor.shift.least,
      );
    }

pub overflow_shr-steps-2 : goal.overflow_shr-steps-2
overflow_shr-steps-2 c = omega (
  arith,
  shift_small c.args.quant c.args.factor.shift c.requires.quant c.requires.factor.shift.least,
)

pub overflow_mul-result-2 : goal.overflow_mul-result-2
overflow_mul-result-2 c = record {
  fits =
      let steps = product_steps c.args.quant c.args.size c.from.result c.from-2.result c.from-3.result c.args.factor
      c.requires.quant c.requires.factor c.requires.size c.from.ensures c.from-2.ensures c.from-3.ensures in
      let all : c.args.size < 65536 = omega (arith, c.requires.size) in
      let less : c.args.size / (32 * c.args.quant) * (32 * c.args.quant) < 65536 = omega (
        arith,
        all,
        div-mul-le_self c.args.size (32 * c.args.quant),
      ) in
      subst (λ (k : ℕ). k < 65536) (sym steps) less;
}

pub overflow_sub-result : goal.overflow_sub-result
overflow_sub-result c =
    let steps = product_steps c.args.quant c.args.size c.from.result c.from-2.result c.from-3.result c.args.factor
    c.requires.quant c.requires.factor c.requires.size c.from.ensures c.from-2.ensures c.from-3.ensures in
    subst (λ (k : ℕ). k ≤ c.args.size) (sym steps) (div-mul-le_self c.args.size (32 * c.args.quant))

pub returns-clause-steps : goal.returns-clause-steps
returns-clause-steps c =
    c.min.ensures
    ∙ ap (λ (k : ℕ). min k 127) (product_quotient c.args.quant c.args.size c.from.result c.from-2.result c.args.factor
    c.requires.quant c.requires.factor c.requires.size c.from.ensures c.from-2.ensures)

pub returns-clause-rest : goal.returns-clause-rest
returns-clause-rest c =
    ap (λ (k : ℕ). c.args.size - k) (product_steps c.args.quant c.args.size c.from.result c.from-2.result
    c.from-3.result c.args.factor c.requires.quant c.requires.factor c.requires.size c.from.ensures c.from-2.ensures
    c.from-3.ensures)
    ∙ rest_after c.args.size (32 * c.args.quant) (omega (arith, c.requires.quant.low))
