use Rattle.std.proofs.Common.{◌≡◌, ℕ, ◌<◌, arith, ap, ◌∙◌, List, length, length-set, ℤ}
use Rattle.std.proofs.lemmas.List.FromFn.{fill_by_all}
use Rattle.h263_types.specs.declared.blocks.Block.{Block}
use Rattle.h263_planes.specs.Lent.{picture}
use Rattle.mode_choice.specs.Choice.{blocks_of, levels_of, samples_of_block}
use Rattle.mode_choice.proofs.Marked.{one_more_marked}
use Rattle.mode_choice.proofs.Zeros.{all_zeros, one_zero_less}
use Rattle.mode_choice.proofs.macroblock.intra_blocks.Goals as goal

pub loop-block-init : goal.loop-block-init
loop-block-init c = (
  omega arith,
  λ d b h. absurd (omega (arith, h)),
  all_zeros c.args.out.now c.requires.zeros,
  omega arith,
  λ k h. absurd (omega (arith, h)),
)

pub intra_block-requires-clause-zeros : goal.intra_block-requires-clause-zeros
intra_block-requires-clause-zeros c = c.loop-block.invariant.2 _ c.loop-block.block (omega arith)
    (omega (arith, c.loop-block-test.true))

pub loop-block-preserved : goal.loop-block-preserved
loop-block-preserved c =
    let b : ℕ = c.loop-block.block in
    let block : ℕ → Block = λ b. levels_of c.args.quantisation.quant c.args.quantisation.keep
    (samples_of_block (picture c.args.frame) c.args.mb b) in
    let now : c.intra_block.new.out ≡ block b = c.intra_block.ensures.levels
    ∙ ap (λ (samples : List ℤ). levels_of c.args.quantisation.quant c.args.quantisation.keep samples)
    c.block_samples.ensures.samples in
    let room : b < length c.loop-block.out = omega (arith, c.loop-block.invariant.0) in (
      length-set c.loop-block.out b _ ∙ c.loop-block.invariant.0,
      λ d. c.one_more.ensures block c.loop-block.out b c.intra_block.new.out d room now (c.loop-block.invariant.1 d),
      one_zero_less c.loop-block.out b _ c.loop-block.invariant.2,
      length-set c.loop-block.marks b _ ∙ c.loop-block.invariant.3,
      one_more_marked c.loop-block.out c.loop-block.marks b _ _ room (omega (
        arith,
        c.loop-block.invariant.3,
        c.loop-block-test.true,
      )) c.intra_block.ensures.marks c.loop-block.invariant.4,
    )

pub returns-clause-blocks : goal.returns-clause-blocks
unfolding blocks_of
returns-clause-blocks c =
    let block : ℕ → Block = λ b. levels_of c.args.quantisation.quant c.args.quantisation.keep
    (samples_of_block (picture c.args.frame) c.args.mb b) in
    fill_by_all block c.loop-block.out 6 (block 0) c.loop-block.invariant.0 (λ b h. c.loop-block.invariant.1 (block 0) b
    (omega arith))

pub returns-clause-marks : goal.returns-clause-marks
returns-clause-marks c = λ k h. c.loop-block.invariant.4 k (omega (arith, h, c.loop-block-test.false))
