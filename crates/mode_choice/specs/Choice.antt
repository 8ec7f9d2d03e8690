-- The choice of a macroblock. H.263 leaves it to the encoder: these rules are this project's own.
use Rattle.std.specs.Prelude.{ℕ, ◌+◌, ◌/◌, ◌%◌, ℤ, pos, negsuc, ◌+ℤ◌, ◌-ℤ◌, int_lt, Bool, ◌&&◌, List, map, max, min, nat_lt, replicate, ◌==◌, Option, Some, None, if◌then◌else◌}
use Rattle.std.specs.Int.{int_shr}
use Rattle.std.specs.List.{list_all, range_with_len}
use Rattle.std.specs.Ordering.{int_eq}
use Rattle.std.specs.Simd.Lanes.{sum_l}
use Rattle.h263_types.specs.declared.blocks.Block.{Block}
use Rattle.h263_types.specs.declared.blocks.Mb.{Mb}
use Rattle.h263_types.specs.declared.blocks.Mb.TheVariants.{Skip, Intra, Inter}
use Rattle.h263_types.specs.declared.params.Params.{Params}
use Rattle.h263_types.specs.declared.vector.Vector.{Vector}
use Rattle.h263_types.specs.Sizes.{mbs_of}
use Rattle.h263_planes.specs.Picture.{Picture}
use Rattle.h263_planes.specs.Samples.{sample_at}
use Rattle.h263_planes.specs.Blocks.{corner_of}
use Rattle.half_sample.specs.Prediction.{predicted_sample}
use Rattle.quantiser.specs.Levels.{inter_level, intra_level}
use Rattle.quantiser.specs.Zigzag.{block_place_of}
use Rattle.idct8.specs.Transform.{forward_at}
use Rattle.motion_search.specs.Best.{best_vector}
use Rattle.motion_search.specs.Cost as luma
use Rattle.sad_kernel.specs.Differences.{differences}
use Rattle.picture_header.specs.declared.header.Header.{Header}

-- ---- what is transformed

-- the sample in column k % 8 of row k / 8 of block b of macroblock mb
abbrev pub sample_in_block : Picture → ℕ → ℕ → ℕ → ℕ
sample_in_block p mb b k =
    let corner = corner_of p.format mb b in
    sample_at p corner.plane (corner.x + k % 8) (corner.y + k / 8)

-- and the one that a vector predicts for this place from a reference (H.263, 6.1); r is the rounding bit
abbrev pub predicted_in_block : Picture → ℕ → ℕ → Vector → ℕ → ℕ → ℕ
predicted_in_block reference r mb v b k =
    let corner = corner_of reference.format mb b in
    predicted_sample reference corner.plane (corner.x + k % 8) (corner.y + k / 8) v r

-- the samples of block b of macroblock mb, by rows
unfoldable pub samples_of_block : Picture → ℕ → ℕ → List ℤ
samples_of_block p mb b = map (λ k. pos (sample_in_block p mb b k)) (range_with_len 0 64)

-- these samples less the predicted ones
unfoldable pub residuals_of : Picture → Picture → ℕ → ℕ → Vector → ℕ → List ℤ
residuals_of p reference r mb v b =
    map (λ k. pos (sample_in_block p mb b k) -ℤ pos (predicted_in_block reference r mb v b k)) (range_with_len 0 64)

-- the coefficient at place k of the zigzag order
abbrev pub coefficient_at : List ℤ → ℕ → ℤ
coefficient_at samples k = forward_at samples (block_place_of k / 8) (block_place_of k % 8)

-- ---- intra

-- a number limited to the range of INTRADC values (H.263, 5.4.1)
abbrev pub limited_dc : ℤ → ℤ
limited_dc (pos n) = pos (max 1 (min n 254))
limited_dc (negsuc n) = pos 1

-- the level of coefficient f at place k of the zigzag order: INTRADC is an eighth of it, rounded; the others are by
-- the quantiser, and 0 from place `keep` on
abbrev pub chosen_level : ℕ → ℕ → ℕ → ℤ → ℤ
chosen_level quant keep k f =
    if k == 0 then limited_dc (int_shr (f +ℤ pos 4) 3) else if nat_lt k keep then intra_level quant f else pos 0

-- the levels of a block of samples
unfoldable pub levels_of : ℕ → ℕ → List ℤ → Block
levels_of quant keep samples =
    record { levels = map (λ k. chosen_level quant keep k (coefficient_at samples k)) (range_with_len 0 64) }

-- the six blocks of macroblock mb
unfoldable pub blocks_of : Picture → ℕ → ℕ → ℕ → List Block
blocks_of frame quant keep mb = map (λ b. levels_of quant keep (samples_of_block frame mb b)) (range_with_len 0 6)

-- macroblock mb coded by itself
abbrev pub intra_of : Picture → ℕ → ℕ → ℕ → Mb
intra_of frame quant keep mb = Intra quant (blocks_of frame quant keep mb)

-- ---- predicted

-- the level of coefficient f of residuals at place k of the zigzag order: 0 from place `keep` on
abbrev pub residual_level_of : ℕ → ℕ → ℕ → ℤ → ℤ
residual_level_of quant keep k f = if nat_lt k keep then inter_level quant f else pos 0

-- the levels of a block of residuals
unfoldable pub residual_levels_of : ℕ → ℕ → List ℤ → Block
residual_levels_of quant keep residuals =
    record { levels = map (λ k. residual_level_of quant keep k (coefficient_at residuals k)) (range_with_len 0 64) }

-- the six blocks of what a vector leaves of macroblock mb
unfoldable pub residual_blocks_of : Picture → Picture → ℕ → ℕ → ℕ → ℕ → Vector → List Block
residual_blocks_of frame reference quant keep r mb v =
    map (λ b. residual_levels_of quant keep (residuals_of frame reference r mb v b)) (range_with_len 0 6)

-- whether no level is left of a block, and of some blocks
abbrev pub is_empty : Block → Bool
is_empty b = list_all (λ l. int_eq l (pos 0)) b.levels

abbrev pub are_empty : List Block → Bool
are_empty blocks = list_all is_empty blocks

-- a macroblock isn't coded where its vector is zero and no level of its residuals is left
abbrev pub is_skipped : Vector → List Block → Bool
is_skipped v blocks = (int_eq v.x (pos 0) && int_eq v.y (pos 0)) && are_empty blocks

-- a macroblock with this vector and these blocks of residuals
abbrev pub predicted_by : ℕ → Vector → List Block → Mb
predicted_by quant v blocks = if is_skipped v blocks then Skip else Inter quant v blocks

-- macroblock mb predicted by a vector
abbrev pub inter_of : Picture → Picture → ℕ → ℕ → ℕ → ℕ → Vector → Mb
inter_of frame reference quant keep r mb v = predicted_by quant v (residual_blocks_of frame reference quant keep r mb v)

-- ---- the choice

-- the mean of the 256 luma samples of a macroblock, rounded down
abbrev pub mean_of : List ℕ → ℕ
mean_of samples = sum_l samples / 256

-- the sum of their absolute differences from it
abbrev pub deviation_of : List ℕ → ℕ
deviation_of samples = differences samples (replicate 256 (mean_of samples))

-- whether a macroblock is coded by itself: where its samples lie nearer to their mean than to what
-- the vector predicts, by more than 500
abbrev pub chooses_intra : ℕ → ℤ → Bool
chooses_intra deviation cost = int_lt (pos deviation) (cost -ℤ pos 500)

-- the choice at place mb where there is a reference
abbrev pub choice_in_p : Picture → Picture → Header → Params → ℕ → Mb
choice_in_p frame reference h params mb =
    let best = best_vector frame reference mb params.radius h.rounding in
    if chooses_intra (deviation_of (luma.samples_of frame mb)) best.cost
    then intra_of frame h.quant params.keep mb
    else inter_of frame reference h.quant params.keep h.rounding mb best.vector

-- the macroblock that is chosen at place mb of a frame: without a reference it is coded by itself
abbrev pub choice_of : Picture → Option Picture → Header → Params → ℕ → Mb
choice_of frame None h params mb = intra_of frame h.quant params.keep mb
choice_of frame (Some reference) h params mb = choice_in_p frame reference h params mb

-- the macroblocks of a frame
unfoldable pub choices_of : Picture → Option Picture → Header → Params → List Mb
choices_of frame reference h params = map (choice_of frame reference h params) (range_with_len 0 (mbs_of frame.format))
