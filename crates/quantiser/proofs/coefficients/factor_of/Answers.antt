use Rattle.std.proofs.Common.{arith}
use Rattle.quantiser.proofs.Quotients.{shift_small}
use Rattle.quantiser.proofs.coefficients.factor_of.Goals as goal

pub overflow_shl-result : goal.overflow_shl-result
overflow_shl-result c = omega (
  arith,
  shift_small c.args.quant c.shift-shift.result c.requires c.shift-shift.ensures.least,
)
