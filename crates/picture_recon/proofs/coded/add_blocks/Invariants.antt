use Rattle.std.proofs.Common.{◌≡◌, ℕ}
use Rattle.h263_planes.specs.Samples.{IsPicture}
use Rattle.h263_planes.specs.Work.{work, loan_of}
use Rattle.picture_recon.specs.Coded.{SetsBlocks, added_sample}
use Rattle.picture_recon.specs.Samples.{block_in}
use Rattle.picture_recon.proofs.coded.add_blocks.Given as goal

-- the blocks before `block` are drawn
abbrev pub invariant-loop-block : goal.invariant-loop-block
invariant-loop-block l =
    (loan_of l.out ≡ loan_of l.initial.out)
    × ((work l.out).format ≡ l.format)
    × SetsBlocks l.format l.at l.block (λ (b : ℕ). added_sample l.quant (block_in l.blocks b)) (work l.initial.out)
    (work l.out)
    × IsPicture (work l.out)
