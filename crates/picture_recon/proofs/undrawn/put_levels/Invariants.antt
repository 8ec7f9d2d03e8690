use Rattle.std.proofs.Common.{◌≡◌, ℕ, ◌+◌, ◌*◌}
use Rattle.h263_types.specs.Blocks.{level_at}
use Rattle.h263_planes.specs.Samples.{IsPicture}
use Rattle.h263_planes.specs.Work.{work, loan_of}
use Rattle.picture_recon.specs.Coded.{SetsBlocks}
use Rattle.picture_recon.specs.Samples.{block_in}
use Rattle.picture_recon.specs.Undrawn.{byte_of_level}
use Rattle.picture_recon.proofs.undrawn.put_levels.Given as goal

-- the blocks before `block` are written
abbrev pub invariant-loop-block : goal.invariant-loop-block
invariant-loop-block l =
    (loan_of l.out ≡ loan_of l.initial.out)
    × ((work l.out).format ≡ l.format)
    × SetsBlocks l.format l.at l.block (λ (b old y x : ℕ). byte_of_level (level_at (block_in l.blocks b) (8 * y + x)))
    (work l.initial.out) (work l.out)
    × IsPicture (work l.out)
