use Rattle.std.proofs.Common.{◌+◌, ◌*◌, pos, arith}
use Rattle.idct8.proofs.Results.{inverse_small, value_within}
use Rattle.idct8.proofs.two_passes.inverse.Goals as goal

pub returns-clause-range : goal.returns-clause-range
returns-clause-range c y x hy hx =
    inverse_small c.args.values.now y x hy hx (λ j i hj hi. value_within (c.requires (8 * j + i) (pos 0) (omega arith)))
    (c.inverse_of_first.ensures y x hy hx)
