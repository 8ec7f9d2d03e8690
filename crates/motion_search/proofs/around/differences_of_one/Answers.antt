use Rattle.std.proofs.Common.{◌∙◌, ◌*◌, ◌/◌, ◌%◌, ◌+◌, ℕ}
use Rattle.h263_types.specs.Sizes.{columns_of}
use Rattle.h263_planes.specs.Lent.{picture}
use Rattle.h263_planes.specs.declared.Plane.TheVariants.{Y}
use Rattle.half_sample.specs.Prediction.{predicted_sample}
use Rattle.motion_search.proofs.Blocks.{is_square}
use Rattle.motion_search.proofs.Pairs.{predicted_differ}
use Rattle.motion_search.proofs.around.differences_of_one.Goals as goal

pub returns-clause-value : goal.returns-clause-value
returns-clause-value c =
    let p = picture c.args.reference in
    let left = 16 * (c.args.mb % columns_of p.format) in
    let top = 16 * (c.args.mb / columns_of p.format) in
    c.differences_of_all.ensures.value
    ∙ predicted_differ c.args.block.now c.luma.new.out p c.args.mb c.args.rounding c.args.vector
    (is_square c.luma.new.out (λ (i j : ℕ). predicted_sample p Y (left + i) (top + j) c.args.vector c.args.rounding)
    c.luma.array_long c.luma.ensures)
