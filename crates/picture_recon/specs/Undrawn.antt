-- An intra picture that isn't drawn yet: where its samples are to stand, each block has its levels, a byte each.
use Rattle.std.specs.Prelude.{ℕ, ◌+◌, ◌-◌, ◌/◌, ◌%◌, ℤ, pos, negsuc, ◌-ℤ◌, List, map, nat_eq, nat_lt, ◌||◌, if◌then◌else◌}
use Rattle.std.specs.List.{range_with_len}
use Rattle.h263_types.specs.declared.blocks.Block.{Block}
use Rattle.h263_types.specs.declared.blocks.Mb.{Mb}
use Rattle.h263_types.specs.declared.blocks.Mb.TheVariants.{Intra}
use Rattle.h263_types.specs.Sizes.{mbs_of}
use Rattle.h263_planes.specs.Blocks.{corner_of}
use Rattle.h263_planes.specs.Picture.{Picture}
use Rattle.h263_planes.specs.Samples.{sample_at}

-- the byte of a level, in two's complement
abbrev pub byte_of_level : ℤ → ℕ
byte_of_level (pos n) = n
byte_of_level (negsuc n) = 255 - n

-- the level at place k of the zigzag order by its byte: INTRADC is never below 0
abbrev pub level_by_byte : ℕ → ℕ → ℤ
level_by_byte k byte = if nat_eq k 0 || nat_lt byte 128 then pos byte else pos byte -ℤ pos 256

-- the byte of that level stands in column k % 8 of row k / 8 of block b of macroblock at
abbrev pub byte_in_block : Picture → ℕ → ℕ → ℕ → ℕ
byte_in_block p at b k =
    let corner = corner_of p.format at b in
    sample_at p corner.plane (corner.x + k % 8) (corner.y + k / 8)

-- the block of these bytes
abbrev pub block_of_bytes : (ℕ → ℕ) → Block
block_of_bytes byte = record { levels = map (λ k. level_by_byte k (byte k)) (range_with_len 0 64) }

-- block b of macroblock at
unfoldable pub undrawn_block : Picture → ℕ → ℕ → Block
undrawn_block p at b = block_of_bytes (byte_in_block p at b)

-- the macroblock, by the quantiser of the picture
unfoldable pub undrawn_mb : ℕ → Picture → ℕ → Mb
undrawn_mb quant p at = Intra quant (map (undrawn_block p at) (range_with_len 0 6))

-- the macroblocks of the picture
unfoldable pub undrawn_mbs : ℕ → Picture → List Mb
undrawn_mbs quant p = map (undrawn_mb quant p) (range_with_len 0 (mbs_of p.format))
