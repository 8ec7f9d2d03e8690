use Rattle.std.proofs.Common.{◌∙◌}
use Rattle.h263_planes.specs.Lent.{picture}
use Rattle.h263_planes.specs.declared.Plane.TheVariants.{Cb, Cr}
use Rattle.half_sample.proofs.Places.{block_sample, cb_inside, colour_half, colour_leads}
use Rattle.half_sample.proofs.macroblock.colours.Goals as goal

pub colour_blocks-requires-clause-inside : goal.colour_blocks-requires-clause-inside
colour_blocks-requires-clause-inside c =
    cb_inside (picture c.args.reference).format c.args.mb c.args.vector c.place_of-place.result c.half_of-half.result
    c.requires.reach c.place_of-place.ensures.leads c.half_of-half.ensures

pub returns-clause-cb : goal.returns-clause-cb
returns-clause-cb c = λ j i hj hi.
    c.colour_blocks.ensures.cb j i hj hi
    ∙ block_sample 8 (picture c.args.reference) Cb c.args.rounding c.args.mb i j c.args.vector c.place_of-place.result
    c.half_of-half.result
    c.place_of-place.ensures.leads c.half_of-half.ensures

-- both colours are read alike
pub returns-clause-cr : goal.returns-clause-cr
returns-clause-cr c = λ j i hj hi.
    c.colour_blocks.ensures.cr j i hj hi
    ∙ block_sample 8 (picture c.args.reference) Cr c.args.rounding c.args.mb i j c.args.vector c.place_of-place.result
    c.half_of-half.result
    (colour_leads Cr 8 (picture c.args.reference).format c.args.mb c.args.vector c.place_of-place.result tt
    c.place_of-place.ensures.leads)
    (colour_half Cr c.args.vector c.half_of-half.result tt c.half_of-half.ensures)
