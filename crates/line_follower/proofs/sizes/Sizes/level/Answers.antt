use Rattle.line_follower.specs.Bucket.{bucket_level}
use Rattle.line_follower.proofs.sizes.Sizes.level.Goals as goal

pub returns-clause-value : goal.returns-clause-value
unfolding bucket_level
returns-clause-value c =
    let p = c.four_level-level.ensures.value in
    let q = c.four_level-level-2.ensures.value in
    let r = c.four_level-level-3.ensures.value in
    let s = c.four_level.ensures.value in
    cc
