use Rattle.std.proofs.Common.{ℕ, pos, ◌+ℤ◌, ◌%◌, subst, sym}
use Rattle.idct8.specs.Transform.{inverse_at}
use Rattle.h263_planes.specs.Blocks.{mb_of, block_of}
use Rattle.h263_types.specs.declared.format.Format.{Format}
use Rattle.h263_planes.specs.Lent.{picture}
use Rattle.h263_planes.specs.Samples.{Inside, sample_at}
use Rattle.h263_planes.specs.Work.{work}
use Rattle.picture_recon.specs.Samples.{inter_values, limited}
use Rattle.picture_recon.proofs.Kept.{sample_kept}
use Rattle.picture_recon.proofs.Flat.{no_levels}
use Rattle.picture_recon.proofs.Steps.{block_put, nothing_added}
use Rattle.picture_recon.proofs.Walk.{none_at_all}
use Rattle.picture_recon.proofs.coded.add_block.Goals as goal

pub returns-then-marks-eq0-clause-samples : goal.returns-then-marks-eq0-clause-samples
returns-then-marks-eq0-clause-samples c = λ plane x y h.
    let values = inter_values c.args.quant c.args.levels.now in
    let zeros = no_levels c.one_order.ensures c.args.quant c.args.levels.now
    (none_at_all c.args.levels.now c.args.marks c.requires.marked c.if-marks-eq0.true) in
    nothing_added (mb_of c.args.format plane x y) c.args.at (block_of plane x y) c.args.block
    (sample_at (work c.args.out.now) plane x y) _
    (λ here. sample_kept (sample_at (work c.args.out.now) plane x y) (inverse_at values (y % 8) (x % 8))
    (c.requires.whole.samples plane _) (c.zeros_give_zeros.ensures values zeros (y % 8) (x % 8)))

pub returns-clause-samples : goal.returns-clause-samples
returns-clause-samples c = λ plane x y h.
    let here : Inside (work c.args.out.now).format plane x y 1 = subst (λ (f : Format). Inside f plane x y 1)
    (sym c.requires.format) h in
    block_put (picture c.seen.result) (work c.args.out.now) c.block_corner-corner.result.plane plane
    c.block_corner-corner.result.x c.block_corner-corner.result.y x y
    c.samples_at-predicted.result c.inter_samples-samples.result
    (λ (n y x : ℕ). limited (pos n +ℤ inverse_at (inter_values c.args.quant c.args.levels.now) y x)) _ _
    c.seen.ensures.picture c.block_corner-corner.ensures.inside.column c.block_corner-corner.ensures.inside.row
    c.samples_at-predicted.ensures c.inter_samples-samples.ensures
    (c.put_samples.ensures.samples plane x y here) (c.block_corner-corner.ensures.samples plane x y h)
