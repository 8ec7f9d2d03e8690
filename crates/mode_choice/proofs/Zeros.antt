-- Blocks of zeros, into which levels are put one block after the other.
use Rattle.std.proofs.Common.{◌≡◌, ◌∙◌, ℕ, ◌+◌, List, ap, arith, get_or-set_other, replicate, slice_set, get_or}
use Rattle.std.proofs.lemmas.List.{get_or-replicate}
use Rattle.h263_types.specs.declared.blocks.Block.{Block}
use Rattle.mode_choice.specs.Walk.{AreZerosFrom, zero_block}

pub all_zeros : (blocks : List Block) → blocks ≡ replicate 6 zero_block → AreZerosFrom 0 blocks
all_zeros blocks e d b h less = ap (λ (blocks : List Block). get_or blocks b d) e
    ∙ get_or-replicate 6 b zero_block d less

pub one_zero_less : (blocks : List Block) (n : ℕ) (block : Block) → AreZerosFrom n blocks
    → AreZerosFrom (n + 1) (slice_set blocks n block)
one_zero_less blocks n block before d b h less = get_or-set_other blocks n b block d (omega (arith, h))
    ∙ before d b (omega (arith, h)) less
