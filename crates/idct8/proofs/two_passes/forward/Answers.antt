use Rattle.std.proofs.Common.{◌+◌, ◌*◌, pos, arith}
use Rattle.idct8.proofs.Results.{forward_small, sample_within}
use Rattle.idct8.proofs.two_passes.forward.Goals as goal

pub returns-clause-range : goal.returns-clause-range
returns-clause-range c v u hv hu =
    forward_small c.args.samples.now v u hv hu
    (λ j i hj hi. sample_within (c.requires (8 * j + i) (pos 0) (omega arith))) (c.forward_of.ensures v u hv hu)
