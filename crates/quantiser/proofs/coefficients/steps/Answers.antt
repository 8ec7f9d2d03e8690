use Rattle.std.proofs.Common.{◌≡◌, ◌∙◌, ◌*◌, ◌/◌, ◌^◌, ap, arith, ℕ, min}
use Rattle.quantiser.proofs.Quotients.{exact, shift_small}
use Rattle.quantiser.proofs.coefficients.steps.Goals as goal

pub overflow_cast-steps-2 : goal.overflow_cast-steps-2
overflow_cast-steps-2 c =
    record {
      fits = omega (
        arith,
        shift_small c.args.quant c.args.factor.shift c.requires.quant c.requires.factor.shift.least,
      );
    }

pub overflow_shr-steps-2 : goal.overflow_shr-steps-2
overflow_shr-steps-2 c = omega (
  arith,
  shift_small c.args.quant c.args.factor.shift c.requires.quant c.requires.factor.shift.least,
)

pub returns-clause-steps : goal.returns-clause-steps
returns-clause-steps c =
    let product : c.from.result * c.from-2.result ≡ c.args.size * c.args.factor.number = cc (
      c.from.ensures,
      c.from-2.ensures,
    ) in
    c.min.ensures
    ∙ ap (λ (k : ℕ). min (k / 2 ^ 16 / 2 ^ c.args.factor.shift) 127) product
    ∙ ap (λ (k : ℕ). min k 127) (exact c.args.quant c.args.size c.args.factor c.requires.quant c.requires.factor
    c.requires.size)
