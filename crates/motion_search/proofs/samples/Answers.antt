use Rattle.std.proofs.Common.{ℕ, ◌+◌, ◌*◌, ◌/◌, ◌%◌, ◌∙◌}
use Rattle.h263_types.specs.Sizes.{columns_of}
use Rattle.h263_planes.specs.Lent.{picture}
use Rattle.h263_planes.specs.Samples.{sample_at}
use Rattle.h263_planes.specs.declared.Plane.TheVariants.{Y}
use Rattle.motion_search.proofs.Blocks.{is_square}
use Rattle.motion_search.proofs.Places.{own_sample}
use Rattle.motion_search.proofs.samples.Goals as goal

pub returns : goal.returns
returns c =
    let p = picture c.args.frame in
    let left = 16 * (c.args.mb % columns_of p.format) in
    let top = 16 * (c.args.mb / columns_of p.format) in
    is_square c.luma.new.out (λ (i j : ℕ). sample_at p Y (left + i) (top + j)) c.luma.array_long
    (λ j i hj hi. c.luma.ensures j i hj hi ∙ own_sample p 0 (left + i) (top + j))
