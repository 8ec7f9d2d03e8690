use Rattle.std.proofs.Common.{◌∙◌, ap}
use Rattle.h263_types.specs.declared.format.Format.{Format}
use Rattle.h263_planes.specs.declared.Plane.TheVariants.{Y, Cb, Cr}
use Rattle.h263_planes.specs.Blocks.{corner_of}
use Rattle.h263_planes.specs.Lent.{picture}
use Rattle.mode_choice.proofs.Blocks.{square_is_block}
use Rattle.mode_choice.proofs.samples.block_samples.Goals as goal

pub returns-in-Y-clause-samples : goal.returns-in-Y-clause-samples
returns-in-Y-clause-samples c =
    square_is_block (picture c.args.frame) c.args.mb c.args.block c.block_corner-corner.result Y c.square.new.samples
    (c.block_corner-corner.ensures.corner
    ∙ ap (λ (f : Format). corner_of f c.args.mb c.args.block) c.format.ensures.format) c.in-Y.is
    c.square.ensures.long c.square.ensures.samples

pub returns-in-Cb-clause-samples : goal.returns-in-Cb-clause-samples
returns-in-Cb-clause-samples c =
    square_is_block (picture c.args.frame) c.args.mb c.args.block c.block_corner-corner.result Cb
    c.square-in-Cb.new.samples
    (c.block_corner-corner.ensures.corner
    ∙ ap (λ (f : Format). corner_of f c.args.mb c.args.block) c.format.ensures.format) c.in-Cb.is
    c.square-in-Cb.ensures.long c.square-in-Cb.ensures.samples

pub returns-in-Cr-clause-samples : goal.returns-in-Cr-clause-samples
returns-in-Cr-clause-samples c =
    square_is_block (picture c.args.frame) c.args.mb c.args.block c.block_corner-corner.result Cr
    c.square-in-Cr.new.samples
    (c.block_corner-corner.ensures.corner
    ∙ ap (λ (f : Format). corner_of f c.args.mb c.args.block) c.format.ensures.format) c.in-Cr.is
    c.square-in-Cr.ensures.long c.square-in-Cr.ensures.samples
