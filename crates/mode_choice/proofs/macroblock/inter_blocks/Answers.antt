-- Each of the six blocks has the levels of its differences, and its marks.
use Rattle.std.proofs.Common.{◌≡◌, ℕ, ◌<◌, arith, ap, ◌∙◌, List, length, length-set, ℤ}
use Rattle.std.proofs.lemmas.List.FromFn.{fill_by_all}
use Rattle.h263_types.specs.declared.blocks.Block.{Block}
use Rattle.h263_planes.specs.Lent.{picture}
use Rattle.mode_choice.specs.Choice.{residual_blocks_of, residual_levels_of, residuals_of}
use Rattle.mode_choice.specs.Residuals.{predicted_at}
use Rattle.mode_choice.proofs.Blocks.{residuals_are, six_predicted}
use Rattle.mode_choice.proofs.Marked.{one_more_marked}
use Rattle.mode_choice.proofs.Zeros.{all_zeros, one_zero_less}
use Rattle.mode_choice.proofs.macroblock.inter_blocks.Goals as goal

pub loop-block-init : goal.loop-block-init
loop-block-init c = (
  omega arith,
  λ q r v is d b h. absurd (omega (arith, h)),
  all_zeros c.args.out.now c.requires.zeros,
  omega arith,
  λ k h. absurd (omega (arith, h)),
)

pub residual_block-requires-clause-zeros : goal.residual_block-requires-clause-zeros
residual_block-requires-clause-zeros c = c.loop-block.invariant.2 _ c.loop-block.block (omega arith)
    (omega (arith, c.loop-block-test.true))

pub loop-block-preserved : goal.loop-block-preserved
loop-block-preserved c =
    let p = picture c.args.frame in
    let b : ℕ = c.loop-block.block in
    let predicted : ℕ → ℕ = predicted_at c.args.predicted.now b in
    let room : b < length c.loop-block.out = omega (arith, c.loop-block.invariant.0) in (
      length-set c.loop-block.out b _ ∙ c.loop-block.invariant.0,
      λ q r v is d.
          let block : ℕ → Block = λ b. residual_levels_of c.args.quantisation.quant c.args.quantisation.keep
          (residuals_of p q r c.args.mb v b) in
          let left = residuals_are p q r c.args.mb v b c.block_residuals.new.residuals predicted
          c.block_residuals.ensures.long c.block_residuals.ensures.residuals
          (λ k h. six_predicted q c.args.mb r v c.args.predicted.now is b k c.loop-block-test.true h) in
          let now : c.residual_block.new.out ≡ block b = c.residual_block.ensures.levels
          ∙ ap (λ (residuals : List ℤ). residual_levels_of c.args.quantisation.quant c.args.quantisation.keep
          residuals) left in
          c.one_more.ensures block c.loop-block.out b c.residual_block.new.out d room now
          (c.loop-block.invariant.1 q r v is d),
      one_zero_less c.loop-block.out b _ c.loop-block.invariant.2,
      length-set c.loop-block.marks b _ ∙ c.loop-block.invariant.3,
      one_more_marked c.loop-block.out c.loop-block.marks b _ _ room (omega (
        arith,
        c.loop-block.invariant.3,
        c.loop-block-test.true,
      )) c.residual_block.ensures.marks c.loop-block.invariant.4,
    )

pub returns-clause-blocks : goal.returns-clause-blocks
unfolding residual_blocks_of
returns-clause-blocks c = λ q r v is.
    let block : ℕ → Block = λ b. residual_levels_of c.args.quantisation.quant c.args.quantisation.keep
    (residuals_of (picture c.args.frame) q r c.args.mb v b) in
    fill_by_all block c.loop-block.out 6 (block 0) c.loop-block.invariant.0 (λ b h. c.loop-block.invariant.1 q r v is
    (block 0) b (omega arith))

pub returns-clause-marks : goal.returns-clause-marks
returns-clause-marks c = λ k h. c.loop-block.invariant.4 k (omega (arith, h, c.loop-block-test.false))
