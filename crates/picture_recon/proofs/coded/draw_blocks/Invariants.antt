use Rattle.std.proofs.Common.{◌≡◌, ℕ, ◌*◌}
use Rattle.h263_planes.specs.Samples.{IsPicture}
use Rattle.h263_planes.specs.Work.{work, loan_of}
use Rattle.picture_recon.specs.Coded.{SetsBlocks, intra_sample}
use Rattle.picture_recon.specs.Samples.{block_in}
use Rattle.picture_recon.proofs.coded.draw_blocks.Given as goal

-- the pairs before `pair` are drawn
abbrev pub invariant-loop-pair : goal.invariant-loop-pair
invariant-loop-pair l =
    (loan_of l.out ≡ loan_of l.initial.out)
    × ((work l.out).format ≡ l.format)
    × SetsBlocks l.format l.at (2 * l.pair) (λ (b old y x : ℕ). intra_sample l.quant (block_in l.blocks b) y x)
    (work l.initial.out) (work l.out)
    × IsPicture (work l.out)
