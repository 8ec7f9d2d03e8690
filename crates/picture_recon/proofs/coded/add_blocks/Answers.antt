use Rattle.std.proofs.Common.{◌≡◌, ℕ, arith, ◌∙◌, subst}
use Rattle.h263_planes.specs.Work.{work}
use Rattle.picture_recon.specs.Coded.{SetsBlocks, added_sample}
use Rattle.picture_recon.specs.Samples.{block_in}
use Rattle.picture_recon.proofs.Steps.{more_blocks}
use Rattle.picture_recon.proofs.coded.add_blocks.Goals as goal

pub loop-block-preserved : goal.loop-block-preserved
loop-block-preserved c = (
  c.add_block.ensures.same_loan ∙ c.loop-block.invariant.0,
  c.add_block.ensures.format,
  more_blocks c.args.format c.args.at c.loop-block.block (λ (b : ℕ). added_sample c.args.quant
      (block_in c.args.blocks.now b))
      (work c.args.out.now) (work c.loop-block.out) _ c.loop-block.invariant.2 c.add_block.ensures.samples,
  c.add_block.ensures.whole,
)

pub returns-clause-samples : goal.returns-clause-samples
returns-clause-samples c =
    let f = c.args.format in
    let at = c.args.at in
    let old = work c.args.out.now in
    let value = λ (b : ℕ). added_sample c.args.quant (block_in c.args.blocks.now b) in
    let four : c.loop-block.block ≡ 4 = omega arith in
    let luma = subst (λ (n : ℕ). SetsBlocks f at n value old (work c.loop-block.out)) four c.loop-block.invariant.2 in
    let with_cb = more_blocks f at 4 value old (work c.loop-block.out) (work c.add_block-2.new.out) luma
    c.add_block-2.ensures.samples in
    more_blocks f at 5 value old (work c.add_block-2.new.out) (work c.add_block-3.new.out) with_cb
    c.add_block-3.ensures.samples
