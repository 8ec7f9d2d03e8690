use Rattle.std.proofs.Common.{◌≡◌, ℕ, ◌<◌, length, get_or}
use Rattle.h263_types.specs.declared.blocks.Block.{Block}
use Rattle.h263_planes.specs.Lent.{picture}
use Rattle.mode_choice.specs.Choice.{levels_of, samples_of_block}
use Rattle.h263_types.specs.Marks.{AreMarksOfFirst}
use Rattle.mode_choice.specs.Walk.{AreZerosFrom}
use Rattle.mode_choice.proofs.macroblock.intra_blocks.Given as goal

-- the blocks before `block` stand with their marks, and the others are zeros
abbrev pub invariant-loop-block : goal.invariant-loop-block
invariant-loop-block l =
    (length l.out ≡ 6)
    × ((d : Block) (b : ℕ) → b < l.block → get_or l.out b d ≡ levels_of l.quantisation.quant l.quantisation.keep
    (samples_of_block (picture l.frame) l.mb b))
    × AreZerosFrom l.block l.out
    × (length l.marks ≡ 6)
    × AreMarksOfFirst l.block l.out l.marks
