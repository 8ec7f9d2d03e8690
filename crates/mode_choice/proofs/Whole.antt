-- What is chosen has six blocks of 64 levels.
use Rattle.std.proofs.Common.{◌≡◌, ℕ, List, map, length, ℤ, get_or, Option, None, Some}
use Rattle.std.specs.List.{range_with_len}
use Rattle.std.proofs.lemmas.List.Elements.{All-map}
use Rattle.std.proofs.lemmas.List.FromFn.{length-map-range_with_len}
use Rattle.h263_types.specs.declared.blocks.Block.{Block}
use Rattle.h263_types.specs.declared.params.Params.{Params}
use Rattle.h263_types.specs.declared.vector.Vector.{Vector}
use Rattle.h263_types.specs.Blocks.{AreWhole, HasWholeBlocks}
use Rattle.h263_planes.specs.Picture.{Picture}
use Rattle.picture_header.specs.declared.header.Header.{Header}
use Rattle.mode_choice.specs.Choice.{blocks_of, choice_of, coefficient_at, chosen_level, levels_of, residual_blocks_of, residual_level_of, residual_levels_of, residuals_of, samples_of_block}
use Rattle.mode_choice.proofs.Choices.{chosen_in_p}

six_blocks : (f : ℕ → Block) → ((b : ℕ) → length (f b).levels ≡ 64) → AreWhole (map f (range_with_len 0 6))
six_blocks f long = record {
  count = length-map-range_with_len f 0 6;
  each = All-map (λ (b : Block). length b.levels ≡ 64) f (range_with_len 0 6)
      (λ k d h. long (get_or (range_with_len 0 6) k d));
}

long_block : (quant keep : ℕ) (samples : List ℤ) → length (levels_of quant keep samples).levels ≡ 64
unfolding levels_of
long_block quant keep samples = length-map-range_with_len (λ k. chosen_level quant keep k (coefficient_at samples k)) 0
    64

long_residual : (quant keep : ℕ) (residuals : List ℤ) → length (residual_levels_of quant keep residuals).levels ≡ 64
unfolding residual_levels_of
long_residual quant keep residuals = length-map-range_with_len (λ k. residual_level_of quant keep k
    (coefficient_at residuals k)) 0 64

whole_blocks : (p : Picture) (quant keep mb : ℕ) → AreWhole (blocks_of p quant keep mb)
unfolding blocks_of
whole_blocks p quant keep mb = six_blocks (λ b. levels_of quant keep (samples_of_block p mb b))
    (λ b. long_block quant keep (samples_of_block p mb b))

whole_residuals : (p reference : Picture) (quant keep r mb : ℕ) (v : Vector)
    → AreWhole (residual_blocks_of p reference quant keep r mb v)
unfolding residual_blocks_of
whole_residuals p reference quant keep r mb v =
    six_blocks (λ b. residual_levels_of quant keep (residuals_of p reference r mb v b))
    (λ b. long_residual quant keep (residuals_of p reference r mb v b))

pub chosen_whole : (frame : Picture) (reference : Option Picture) (h : Header) (params : Params) (mb : ℕ)
    → HasWholeBlocks (choice_of frame reference h params mb)
chosen_whole frame None h params mb = whole_blocks frame h.quant params.keep mb
chosen_whole frame (Some reference) h params mb =
    chosen_in_p HasWholeBlocks frame reference h params mb (whole_blocks frame h.quant params.keep mb) tt
    (whole_residuals frame reference h.quant params.keep h.rounding mb _)
