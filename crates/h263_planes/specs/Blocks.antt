-- The macroblocks of a picture and their six blocks (H.263, 4.2.1): a macroblock has 16 x 16
-- samples of Y and 8 x 8 of each colour; macroblocks are numbered in reading order.
use Rattle.std.specs.Prelude.{ℕ, ◌+◌, ◌*◌, ◌/◌, ◌%◌, ◌≡◌, nat_lt, ◌==◌, if◌then◌else◌}
use Rattle.h263_types.specs.declared.format.Format.{Format}
use Rattle.h263_types.specs.Sizes.{columns_of}
use Rattle.h263_planes.specs.declared.Plane.{Plane}
use Rattle.h263_planes.specs.declared.Plane.TheVariants.{Y, Cb, Cr}
use Rattle.h263_planes.specs.declared.blocks.Corner.{Corner}
use Rattle.h263_planes.specs.Samples.{Inside}

-- the macroblock that holds the sample in column x of row y of a plane
abbrev pub mb_of : Format → Plane → ℕ → ℕ → ℕ
mb_of f Y x y = columns_of f * (y / 16) + x / 16
mb_of f Cb x y = columns_of f * (y / 8) + x / 8
mb_of f Cr x y = columns_of f * (y / 8) + x / 8

-- the block of that macroblock that holds it: four of Y in reading order, Cb, Cr
abbrev pub block_of : Plane → ℕ → ℕ → ℕ
block_of Y x y = 2 * (y % 16 / 8) + x % 16 / 8
block_of Cb x y = 4
block_of Cr x y = 5

-- the first sample of block b of macroblock mb
abbrev pub corner_of : Format → ℕ → ℕ → Corner
corner_of f mb b =
    if nat_lt b 4
    then record { plane = Y; x = 16 * (mb % columns_of f) + 8 * (b % 2); y = 16 * (mb / columns_of f) + 8 * (b / 2) }
    else record { plane = if b == 4 then Cb else Cr; x = 8 * (mb % columns_of f); y = 8 * (mb / columns_of f) }

-- a block's corner: 8 x 8 samples from it on lie in the plane, and both places are multiples of 8
pub record IsCorner (f : Format) (corner : Corner) : Type 0 where
  pub inside : Inside f corner.plane corner.x (corner.y + 7) 8
  pub column : corner.x % 8 ≡ 0
  pub row : corner.y % 8 ≡ 0
