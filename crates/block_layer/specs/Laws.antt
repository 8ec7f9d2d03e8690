-- What a syntax that has blocks in it needs to know of them.
use Rattle.std.specs.Prelude.{◌≡◌, ℤ, ◌+◌, ◌*◌, ◌≤◌, List, [], length, Bool, true, false}
use Rattle.h263_types.specs.declared.blocks.Block.{Block}
use Rattle.h263_types.specs.Blocks.{IsIntraBlock, IsInterBlock}
use Rattle.h263_bits.specs.Syntax.{IsProductive}
use Rattle.block_layer.specs.Text.{intra_block, inter_block, no_levels, none_left, is_coded, intra_text, inter_text, IsIntraText, IsInterText}

-- each event of a block takes a bit at least
pub record AreBlocksProductive : Type 0 where
  pub intra : (coded : Bool) → IsProductive (intra_block coded)
  pub inter : IsProductive inter_block

-- what is written is spelled
pub record AreBlocksSpelt : Type 0 where
  pub intra : (b : Block) → length b.levels ≡ 64 → IsIntraBlock b
      → IsIntraText (is_coded b.levels) b.levels (intra_text b.levels)
  pub inter : (b : Block) → length b.levels ≡ 64 → IsInterBlock b → none_left b.levels ≡ false
      → IsInterText b.levels (inter_text b.levels)

-- the levels that are spelled are in their ranges
pub record AreInRange : Type 0 where
  pub intra : (coded : Bool) (levels : List ℤ) (text : List Bool) → IsIntraText coded levels text
      → IsIntraBlock (record { levels = levels })
  pub inter : (levels : List ℤ) (text : List Bool) → IsInterText levels text
      → IsInterBlock (record { levels = levels })

-- a block whose levels are all 0, and what is written of it
pub record IsEmptyBlock : Type 0 where
  pub in_range : IsInterBlock (record { levels = no_levels })
  pub levels : (levels : List ℤ) → length levels ≡ 64 → none_left levels ≡ true → levels ≡ no_levels
  pub text : (levels : List ℤ) → none_left levels ≡ true → inter_text levels ≡ []

-- no text is longer: an event has 22 bits at most, as an escape
pub record AreBlocksShort : Type 0 where
  pub intra : (levels : List ℤ) → length levels ≡ 64 → length (intra_text levels) ≤ 8 + 63 * 22
  pub inter : (levels : List ℤ) → length levels ≡ 64 → length (inter_text levels) ≤ 64 * 22

pub record BlockLaws : Type 0 where
  pub productive : AreBlocksProductive
  pub spelt : AreBlocksSpelt
  pub in_range : AreInRange
  pub empty : IsEmptyBlock
  pub short : AreBlocksShort
