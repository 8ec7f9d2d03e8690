-- The samples that the levels of a macroblock's blocks stand for (H.263, 6.2 and 6.3).
use Rattle.std.specs.Prelude.{◌≡◌, ℕ, ◌%◌, pos, ◌+ℤ◌, ◌&&◌, nat_eq, nat_lt, if◌then◌else◌}
use Rattle.h263_types.specs.declared.blocks.Block.{Block}
use Rattle.h263_types.specs.declared.format.Format.{Format}
use Rattle.h263_planes.specs.declared.Plane.{Plane}
use Rattle.h263_planes.specs.Blocks.{block_of, mb_of}
use Rattle.h263_planes.specs.Picture.{Picture}
use Rattle.h263_planes.specs.Samples.{Inside, sample_at}
use Rattle.idct8.specs.Transform.{inverse_at}
use Rattle.picture_recon.specs.Samples.{inter_values, intra_values, limited}

-- the sample in row y and column x of a block of an intra macroblock
abbrev pub intra_sample : ℕ → Block → ℕ → ℕ → ℕ
intra_sample quant levels y x = limited (inverse_at (intra_values quant levels) y x)

-- the sample in row y and column x of a block of an inter macroblock, over the predicted one
abbrev pub added_sample : ℕ → Block → ℕ → ℕ → ℕ → ℕ
added_sample quant levels predicted y x = limited (pos predicted +ℤ inverse_at (inter_values quant levels) y x)

-- block b of macroblock `at` is set, each sample by the one that stood there, its row and its column in the block; all
-- other samples stay
abbrev pub SetsBlock : Format → ℕ → ℕ → (ℕ → ℕ → ℕ → ℕ) → Picture → Picture → Type 0
SetsBlock f at b value old new =
    (plane : Plane) (x y : ℕ) → Inside f plane x y 1
    → sample_at new plane x y ≡ (if nat_eq (mb_of f plane x y) at && nat_eq (block_of plane x y) b
    then value (sample_at old plane x y) (y % 8) (x % 8) else sample_at old plane x y)

-- and so the first `count` blocks, each with values of its own
abbrev pub SetsBlocks : Format → ℕ → ℕ → (ℕ → ℕ → ℕ → ℕ → ℕ) → Picture → Picture → Type 0
SetsBlocks f at count value old new =
    (plane : Plane) (x y : ℕ) → Inside f plane x y 1
    → sample_at new plane x y ≡ (if nat_eq (mb_of f plane x y) at && nat_lt (block_of plane x y) count
    then value (block_of plane x y) (sample_at old plane x y) (y % 8) (x % 8) else sample_at old plane x y)
