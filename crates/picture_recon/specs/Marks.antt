-- The levels that aren't 0, as the bits of a number, and the values of a block while these bits are taken away.
use Rattle.std.specs.Prelude.{◌≡◌, ℕ, ◌<◌, ◌≤◌, pos, ℤ, List, All, length, nat_eq, slice_index_or, if◌then◌else◌}
use Rattle.std.specs.Int.{bit_at}
use Rattle.h263_types.specs.declared.blocks.Block.{Block}
use Rattle.h263_types.specs.Blocks.{IsValue}
use Rattle.quantiser.specs.Zigzag.{zigzag_place_of}
use Rattle.picture_recon.specs.Samples.{block_in, inter_value}

-- a level whose bit isn't set is 0
abbrev pub AreMarked : List ℤ → ℕ → Type 0
AreMarked levels marks = (k : ℕ) → k < 64 → bit_at marks k ≡ 0 → slice_index_or levels k (pos 0) ≡ pos 0

-- the marks of a macroblock's six blocks
abbrev pub AreMarkedIn : List Block → List ℕ → Type 0
AreMarkedIn blocks marks = (b : ℕ) → b < 6 → AreMarked (block_in blocks b).levels (slice_index_or marks b 0)

-- a value whose level's bit isn't set is 0; the first one is left out, since an intra block puts down 0 for it,
-- marked or not
abbrev pub HasMarkedValues : ℕ → List ℤ → Type 0
HasMarkedValues marks values =
    (at : ℕ) → 1 ≤ at → at < 64 → bit_at marks (zigzag_place_of at) ≡ 0 → slice_index_or values at (pos 0) ≡ pos 0

-- the values of the levels whose bits aren't in the rest stand at their places in the block, but for the first, and
-- zeros at the first place and at those of the others
pub record ArePut (quant : ℕ) (b : Block) (rest : ℕ) (values : List ℤ) : Type 0 where
  pub long : length values ≡ 64
  pub first : slice_index_or values 0 (pos 0) ≡ pos 0
  pub stand : (at : ℕ) → at < 64 → 1 ≤ at → slice_index_or values at (pos 0)
      ≡ (if nat_eq (bit_at rest (zigzag_place_of at)) 0 then inter_value quant b at else pos 0)
  pub range : All IsValue values
