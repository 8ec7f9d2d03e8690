use Rattle.std.proofs.Common.{◌≡◌, ℕ, ◌<◌, length, get_or}
use Rattle.h263_types.specs.declared.blocks.Block.{Block}
use Rattle.h263_types.specs.declared.vector.Vector.{Vector}
use Rattle.h263_planes.specs.Lent.{picture}
use Rattle.h263_planes.specs.Picture.{Picture}
use Rattle.half_sample.specs.Macroblock.{IsPredicted}
use Rattle.mode_choice.specs.Choice.{residual_levels_of, residuals_of}
use Rattle.h263_types.specs.Marks.{AreMarksOfFirst}
use Rattle.mode_choice.specs.Walk.{AreZerosFrom}
use Rattle.mode_choice.proofs.macroblock.inter_blocks.Given as goal

-- the blocks before `block` stand with their marks and the others are zeros, from whichever picture and by
-- whichever vector the samples are predicted
abbrev pub invariant-loop-block : goal.invariant-loop-block
invariant-loop-block l =
    (length l.out ≡ 6)
    × ((q : Picture) (r : ℕ) (v : Vector) → IsPredicted q l.mb v r l.predicted → (d : Block) (b : ℕ) → b < l.block →
    get_or l.out b d ≡ residual_levels_of l.quantisation.quant l.quantisation.keep
    (residuals_of (picture l.frame) q r l.mb v b))
    × AreZerosFrom l.block l.out
    × (length l.marks ≡ 6)
    × AreMarksOfFirst l.block l.out l.marks
