use Rattle.std.proofs.Common.{ℕ, ◌%◌, subst}
use Rattle.h263_types.specs.declared.format.Format.{Format}
use Rattle.h263_planes.specs.Blocks.{mb_of, block_of}
use Rattle.h263_planes.specs.Samples.{sample_at}
use Rattle.h263_planes.specs.Work.{work}
use Rattle.half_sample.specs.Prediction.{predicted_sample}
use Rattle.picture_recon.specs.Coded.{added_sample}
use Rattle.picture_recon.specs.Samples.{block_in}
use Rattle.picture_recon.proofs.Drawn.{SetsPredicted}
use Rattle.picture_recon.proofs.Steps.{six_blocks, all_blocks, over_predicted}
use Rattle.picture_recon.proofs.predicted.put_inter.Goals as goal

pub returns-clause-samples : goal.returns-clause-samples
returns-clause-samples c = subst (λ (f : Format). SetsPredicted f c.args.at c.args.quant c.args.blocks.now
    c.args.predicted.now (work c.args.out.now) (work c.add_blocks.new.out)) c.format-format.ensures.format
    (λ p v r same is plane x y h.
    let m = mb_of c.format-format.result plane x y in
    let b = block_of plane x y in
    over_predicted m c.args.at _ (sample_at (work c.put_predicted.new.out) plane x y) (predicted_sample p plane x y v r)
    _
    (λ (n : ℕ). added_sample c.args.quant (block_in c.args.blocks.now b) n (y % 8) (x % 8))
    (all_blocks m c.args.at b 6 _ _ _ (six_blocks plane x y) (c.add_blocks.ensures.samples plane x y h))
    (c.put_predicted.ensures.samples p v r same is plane x y h))
