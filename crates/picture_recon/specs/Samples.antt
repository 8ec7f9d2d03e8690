-- The samples of a macroblock (H.263, 6.1 to 6.3).
use Rattle.std.specs.Prelude.{ℕ, ◌%◌, ℤ, pos, negsuc, ◌+ℤ◌, ◌*ℤ◌, List, [], map, min, slice_index_or, Option, ◌==◌, if◌then◌else◌}
use Rattle.std.specs.List.{range_with_len}
use Rattle.std.specs.Option.{option_map_or}
use Rattle.h263_types.specs.declared.blocks.Block.{Block}
use Rattle.h263_types.specs.declared.blocks.Mb.{Mb}
use Rattle.h263_types.specs.declared.blocks.Mb.TheVariants.{Skip, Intra, Inter}
use Rattle.h263_types.specs.declared.format.Format.{Format}
use Rattle.h263_types.specs.declared.vector.Vector.{Vector}
use Rattle.h263_types.specs.Blocks.{level_at, mb_in}
use Rattle.h263_planes.specs.declared.Plane.{Plane}
use Rattle.h263_planes.specs.Picture.{Picture}
use Rattle.h263_planes.specs.Samples.{sample_at}
use Rattle.h263_planes.specs.Blocks.{block_of, mb_of}
use Rattle.h263_planes.specs.Given.{picture_with}
use Rattle.quantiser.specs.Levels.{value_of}
use Rattle.quantiser.specs.Zigzag.{zigzag_place_of}
use Rattle.idct8.specs.Transform.{inverse_at}
use Rattle.half_sample.specs.Prediction.{predicted_sample}

-- a number limited to the range of samples (6.3.2)
abbrev pub limited : ℤ → ℕ
limited (pos n) = min n 255
limited (negsuc n) = 0

-- the value at a place of a block of an intra macroblock: 8 times INTRADC at place 0, else that of the level which
-- stands at this place of the zigzag order (6.2.1 to 6.2.3)
abbrev pub intra_value : ℕ → Block → ℕ → ℤ
intra_value quant block at =
    if at == 0 then pos 8 *ℤ level_at block 0 else value_of quant (level_at block (zigzag_place_of at))

-- the values of such a block, by rows
unfoldable pub intra_values : ℕ → Block → List ℤ
intra_values quant block = map (intra_value quant block) (range_with_len 0 64)

-- the value at a place of a block of an inter macroblock: that of the level which stands at this place of the zigzag
-- order, at place 0 as at each other
abbrev pub inter_value : ℕ → Block → ℕ → ℤ
inter_value quant block at = value_of quant (level_at block (zigzag_place_of at))

-- the values of such a block, by rows
unfoldable pub inter_values : ℕ → Block → List ℤ
inter_values quant block = map (inter_value quant block) (range_with_len 0 64)

-- block b of six
abbrev pub block_in : List Block → ℕ → Block
block_in blocks b = slice_index_or blocks b (record { levels = [] })

-- the reference's sample at the same place
abbrev pub same_place : Option Picture → Plane → ℕ → ℕ → ℕ
same_place reference plane x y = option_map_or (λ (p : Picture). sample_at p plane x y) reference 0

-- the sample that a vector predicts from the reference
abbrev pub predicted_in : ℕ → Option Picture → Vector → Plane → ℕ → ℕ → ℕ
predicted_in rounding reference vector plane x y =
    option_map_or (λ (p : Picture). predicted_sample p plane x y vector rounding) reference 0

-- The sample in column x of row y of a plane, by the macroblock that holds it, the picture's rounding and its
-- reference: that of the reference (Skip), the limited number of the inverse transform (Intra, 6.2.4), or the limited
-- sum of the prediction and that number (Inter, 6.3.1).
abbrev pub sample_in : ℕ → Option Picture → Mb → Plane → ℕ → ℕ → ℕ
sample_in rounding reference Skip plane x y = same_place reference plane x y
sample_in rounding reference (Intra quant blocks) plane x y =
    limited (inverse_at (intra_values quant (block_in blocks (block_of plane x y))) (y % 8) (x % 8))
sample_in rounding reference (Inter quant vector blocks) plane x y =
    limited (pos (predicted_in rounding reference vector plane x y) +ℤ inverse_at
    (inter_values quant (block_in blocks (block_of plane x y))) (y % 8) (x % 8))

-- The picture of macroblocks: each sample is by the macroblock and the block that hold it. Of the picture's header
-- this takes the format and the rounding.
abbrev pub reconstruction : Format → ℕ → Option Picture → List Mb → Picture
reconstruction f rounding reference mbs =
    picture_with f (λ plane x y. sample_in rounding reference (mb_in mbs (mb_of f plane x y)) plane x y)
