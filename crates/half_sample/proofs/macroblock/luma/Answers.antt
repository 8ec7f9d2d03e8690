use Rattle.std.proofs.Common.{◌∙◌}
use Rattle.h263_planes.specs.Lent.{picture}
use Rattle.h263_planes.specs.declared.Plane.TheVariants.{Y}
use Rattle.half_sample.proofs.Places.{block_sample, luma_inside}
use Rattle.half_sample.proofs.macroblock.luma.Goals as goal

pub luma_block-requires-clause-inside : goal.luma_block-requires-clause-inside
luma_block-requires-clause-inside c =
    luma_inside (picture c.args.reference).format c.args.mb c.args.vector c.place_of-place.result c.half_of-half.result
    c.requires.reach c.place_of-place.ensures.leads c.half_of-half.ensures

pub returns : goal.returns
returns c j i hj hi =
    c.luma_block.ensures j i hj hi
    ∙ block_sample 16 (picture c.args.reference) Y c.args.rounding c.args.mb i j c.args.vector c.place_of-place.result
    c.half_of-half.result
    c.place_of-place.ensures.leads c.half_of-half.ensures
