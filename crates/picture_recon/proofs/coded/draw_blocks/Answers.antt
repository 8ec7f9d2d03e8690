use Rattle.std.proofs.Common.{◌≡◌, ℕ, ◌+◌, ◌*◌, arith, ◌∙◌, subst}
use Rattle.h263_planes.specs.Work.{work}
use Rattle.picture_recon.specs.Coded.{SetsBlocks, intra_sample}
use Rattle.picture_recon.specs.Samples.{block_in}
use Rattle.picture_recon.proofs.Steps.{more_blocks, with_samples}
use Rattle.picture_recon.proofs.coded.draw_blocks.Goals as goal

pub loop-pair-preserved : goal.loop-pair-preserved
loop-pair-preserved c =
    let f = c.args.format in
    let at = c.args.at in
    let b : ℕ = 2 * c.loop-pair.pair in
    let old = work c.args.out.now in
    let sample = λ (b : ℕ). intra_sample c.args.quant (block_in c.args.blocks.now b) in
    let value = λ (b old y x : ℕ). sample b y x in
    let one = more_blocks f at b value old (work c.loop-pair.out) (work c.put_block.new.out) c.loop-pair.invariant.2
    (with_samples f at b c.two_intra.result.0 (sample b) (work c.loop-pair.out) (work c.put_block.new.out)
    c.two_intra.ensures.one c.put_block.ensures.samples) in
    let next = more_blocks f at (b + 1) value old (work c.put_block.new.out) (work c.put_block-in-loop-pair.new.out) one
    (with_samples f at (b + 1) c.two_intra.result.1 (sample (b + 1)) (work c.put_block.new.out)
    (work c.put_block-in-loop-pair.new.out)
    c.two_intra.ensures.next c.put_block-in-loop-pair.ensures.samples) in
    let count : b + 1 + 1 ≡ 2 * (c.loop-pair.pair + 1) = omega arith in (
      c.put_block-in-loop-pair.ensures.same_loan ∙ c.put_block.ensures.same_loan ∙ c.loop-pair.invariant.0,
      c.put_block-in-loop-pair.ensures.format,
      subst (λ (n : ℕ). SetsBlocks f at n value old (work c.put_block-in-loop-pair.new.out)) count next,
      c.put_block-in-loop-pair.ensures.whole,
    )
