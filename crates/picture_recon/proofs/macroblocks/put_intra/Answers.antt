use Rattle.h263_planes.specs.Blocks.{mb_of, block_of}
use Rattle.picture_recon.proofs.Steps.{six_blocks, all_blocks}
use Rattle.picture_recon.proofs.macroblocks.put_intra.Goals as goal

pub returns-clause-samples : goal.returns-clause-samples
returns-clause-samples c = λ rounding reference plane x y h.
    all_blocks (mb_of c.args.format plane x y) c.args.at (block_of plane x y) 6 _ _ _ (six_blocks plane x y)
    (c.draw_blocks.ensures.samples plane x y h)
