use Rattle.std.proofs.Common.{◌∙◌, ap}
use Rattle.idct8.specs.declared.passes.Direction.TheVariants.{Forward}
use Rattle.idct8.specs.Vectors.{lane, row_at, sum_at}
use Rattle.idct8.specs.Transform.{rounded}
use Rattle.idct8.proofs.Steps.{same_rounded, passes_are, passes_of_parts}
use Rattle.idct8.proofs.two_passes.forward_of.Goals as goal

pub returns : goal.returns
returns c r k hr hk =
    c.round.ensures r k hr hk
    ∙ same_rounded (c.turned_pass-high.ensures.sums r k hr hk) (c.turned_pass-low.ensures.sums r k hr hk)
    ∙ ap rounded (passes_of_parts Forward (row_at c.split.result.0 k) (row_at c.split.result.1 k)
    (λ j. lane (sum_at c.row_pass.result k) j) r (λ j hj. c.split.ensures.whole k j hk hj))
    ∙ passes_are Forward c.args.block.now (λ j. lane (sum_at c.row_pass.result k) j) r k
    (λ j hj. c.row_pass.ensures.sums k j hk hj)
