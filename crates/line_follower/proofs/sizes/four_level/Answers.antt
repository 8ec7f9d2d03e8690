use Rattle.line_follower.specs.Bucket.{four_level}
use Rattle.line_follower.proofs.sizes.four_level.Goals as goal

pub returns-clause-value : goal.returns-clause-value
unfolding four_level
returns-clause-value c =
    let p = c.poured-level.ensures.value in
    let q = c.poured-level-2.ensures.value in
    let r = c.poured-level-3.ensures.value in
    let s = c.poured.ensures.value in
    cc
