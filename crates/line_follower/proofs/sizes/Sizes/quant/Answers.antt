use Rattle.line_follower.specs.Bucket.{quant_for}
use Rattle.line_follower.proofs.sizes.Sizes.quant.Goals as goal

pub returns : goal.returns
unfolding quant_for
returns c =
    let l = c.level.ensures.value in
    let m = c.min.ensures in
    cc
