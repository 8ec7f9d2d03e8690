-- The levels of a block are in the ranges of its text.
use Rattle.std.proofs.Common.{◌≡◌, ℕ, suc, ◌+◌, ◌-◌, ◌*◌, min, unsigned_abs, neg_ℤ, ◌/◌, ◌%◌, ◌≤◌, ◌<◌, List, get_or, Bool, true, false, cond, nat_eq, nat_lt, ap, subst, sym, arith, ℤ, pos, negsuc, map, replicate, refl, lit<, ◌∙◌, to_z, of_z, w16, w32}
use Rattle.std.specs.List.{range_with_len}
use Rattle.std.proofs.lemmas.Int.{ints}
use Rattle.std.proofs.lemmas.List.{get_or-replicate, length-replicate}
use Rattle.std.proofs.Math.Nat.{div-eq_of_lt}
use Rattle.std.proofs.lemmas.List.FromFn.{fill_by_all, get_or-map-range_with_len, length-map-range_with_len}
use Rattle.std.proofs.lemmas.List.Elements.{All-from_get_or}
use Rattle.std.specs.Prelude.{All}
use Rattle.std.proofs.lemmas.Bool.Decides.{nat_tests}
use Rattle.h263_types.specs.declared.blocks.Block.{Block}
use Rattle.h263_types.specs.declared.vector.Vector.{Vector}
use Rattle.h263_types.specs.Blocks.{IsCoefficient, IsDc, IsInterBlock, IsInterMb, IsIntraBlock, IsIntraMb, IsLevel, IsQuant, IsVector}
use Rattle.h263_planes.specs.Picture.{Picture}
use Rattle.quantiser.specs.Levels.{inter_level, intra_level}
use Rattle.quantiser.specs.Zigzag.{block_place_of}
use Rattle.idct8.specs.Transform.{entry, forward_at}
use Rattle.mode_choice.specs.Choice.{limited_dc, chosen_level, coefficient_at, levels_of, blocks_of, samples_of_block, residual_level_of, residual_levels_of, residual_blocks_of, residuals_of}

-- a place of the block by its row and column
pub at_place : (block : List ℤ) (at : ℕ) → entry block (at / 8) (at % 8) ≡ get_or block at (pos 0)
at_place block at = let e : 8 * (at / 8) + at % 8 ≡ at = omega arith in ap (λ (k : ℕ). get_or block k (pos 0)) e

dc_in_range : (z : ℤ) → IsDc (limited_dc z)
dc_in_range (pos n) = record { low = omega (arith, ints); high = omega (arith, ints) }
dc_in_range (negsuc n) = record { low = omega (arith, ints); high = omega (arith, ints) }

pub level_small : (quant : ℕ) (f : ℤ) → IsLevel (intra_level quant f)
level_small quant (pos n) = record { low = omega (arith, ints); high = omega (arith, ints) }
level_small quant (negsuc n) = record { low = omega (arith, ints); high = omega (arith, ints) }

kept_or_zero : (b : Bool) (z : ℤ) → IsLevel z → IsLevel (cond b z (pos 0))
kept_or_zero true z h = h
kept_or_zero false z h = record { low = omega (arith, ints); high = omega (arith, ints) }

second : (b : Bool) (z w : ℤ) → b ≡ false → IsLevel w → IsLevel (cond b z w)
second true z w e h = cc
second false z w e h = h

later : (k : ℕ) → 1 ≤ k → nat_eq k 0 ≡ false
later k h = grind (arith, nat_tests)

level_in_range : (quant keep k : ℕ) (f : ℤ) → 1 ≤ k → IsLevel (chosen_level quant keep k f)
level_in_range quant keep k f h =
    second (nat_eq k 0) _ _ (later k h) (kept_or_zero (nat_lt k keep) (intra_level quant f) (level_small quant f))

pub block_in_range : (quant keep : ℕ) (samples : List ℤ) → IsIntraBlock (levels_of quant keep samples)
unfolding levels_of
block_in_range quant keep samples =
    let f : ℕ → ℤ = λ k. chosen_level quant keep k (coefficient_at samples k) in
    record {
      dc = subst IsDc (sym (get_or-map-range_with_len f 0 64 0 0 (pos 0) (lit< tt) refl)) (dc_in_range _);
      levels = λ k some below.
          subst IsLevel (sym (get_or-map-range_with_len f 0 64 k k (pos 0) below (omega arith)))
          (level_in_range quant keep k (coefficient_at samples k) some);
    }

each_block : (P : Block → Type 0) (f : ℕ → Block) → ((b : ℕ) → P (f b)) → All P (map f (range_with_len 0 6))
each_block P f h =
    let long = length-map-range_with_len f 0 6 in
    All-from_get_or P (map f (range_with_len 0 6)) (f 0) (λ b below.
    subst P (sym (get_or-map-range_with_len f 0 6 b b (f 0) (omega arith) (omega arith))) (h b))

pub blocks_in_range : (frame : Picture) (quant keep mb : ℕ) → IsQuant quant
    → IsIntraMb quant (blocks_of frame quant keep mb)
unfolding blocks_of
blocks_in_range frame quant keep mb h =
    record {
      quant_in_range = h;
      each = each_block IsIntraBlock (λ b. levels_of quant keep (samples_of_block frame mb b))
          (λ b. block_in_range quant keep (samples_of_block frame mb b));
    }

-- ---- residuals

pub residual_small : (quant : ℕ) (f : ℤ) → IsLevel (inter_level quant f)
residual_small quant (pos n) = record { low = omega (arith, ints); high = omega (arith, ints) }
residual_small quant (negsuc n) = record { low = omega (arith, ints); high = omega (arith, ints) }

residuals_in_range : (quant keep : ℕ) (residuals : List ℤ) → IsInterBlock (residual_levels_of quant keep residuals)
unfolding residual_levels_of
residuals_in_range quant keep residuals =
    let f : ℕ → ℤ = λ k. residual_level_of quant keep k (coefficient_at residuals k) in
    record {
      levels = λ k below.
          subst IsLevel (sym (get_or-map-range_with_len f 0 64 k k (pos 0) below (omega arith)))
          (kept_or_zero (nat_lt k keep) (inter_level quant (coefficient_at residuals k))
          (residual_small quant (coefficient_at residuals k)));
    }

pub residual_blocks_in_range : (frame reference : Picture) (quant keep r mb : ℕ) (v : Vector) → IsQuant quant
    → IsVector v →
    IsInterMb quant v (residual_blocks_of frame reference quant keep r mb v)
unfolding residual_blocks_of
residual_blocks_in_range frame reference quant keep r mb v hq hv =
    let residuals : ℕ → List ℤ = λ b. residuals_of frame reference r mb v b in
    record {
      quant_in_range = hq;
      vector_in_range = hv;
      each = each_block IsInterBlock (λ b. residual_levels_of quant keep (residuals b))
          (λ b. residuals_in_range quant keep (residuals b));
    }

-- ---- what a transform gives

-- a coefficient at a place of its block
pub is_coefficient : (coefficients : List ℤ) (at : ℕ) → at < 64
    → ((v u : ℕ) → v < 8 → u < 8 → IsCoefficient (entry coefficients v u))
    → IsCoefficient (get_or coefficients at (pos 0))
is_coefficient coefficients at h each = subst IsCoefficient (at_place coefficients at)
    (each (at / 8) (at % 8) (omega arith) (omega arith))

-- numbers are kept as they are
pub coefficient_kept : (z : ℤ) → IsCoefficient z → to_z w32 (of_z w32 z) ≡ z
coefficient_kept z h = omega (arith, ints)

pub level_kept : (z : ℤ) → IsLevel z → to_z w16 (of_z w16 z) ≡ z
level_kept z h = omega (arith, ints)

-- the transform's coefficient at place k of the zigzag order
pub is_forward : (coefficients block : List ℤ) (at k : ℕ) → at ≡ block_place_of k → at < 64
    → ((v u : ℕ) → v < 8 → u < 8 → entry coefficients v u ≡ forward_at block v u) →
    get_or coefficients at (pos 0) ≡ coefficient_at block k
is_forward coefficients block at k e h each =
    sym (at_place coefficients at) ∙ each (at / 8) (at % 8) (omega arith) (omega arith)
    ∙ ap (λ (n : ℕ). forward_at block (n / 8) (n % 8)) e

-- a coefficient that is smaller than a step and half a quantiser has no level
pub no_level : (quant : ℕ) (f : ℤ) → IsQuant quant → unsigned_abs f < 2 * quant + quant / 2
    → inter_level quant f ≡ pos 0
no_level quant (pos n) h small = ap (λ (size : ℕ). pos (min size 127))
    (div-eq_of_lt (let less : n - quant / 2 < 2 * quant = omega (arith, h.low) in less))
no_level quant (negsuc n) h small = ap (λ (size : ℕ). neg_ℤ (pos (min size 127)))
    (div-eq_of_lt (let less : suc n - quant / 2 < 2 * quant = omega (arith, h.low) in less))

pub kept_nothing : (b : Bool) (z : ℤ) → z ≡ pos 0 → pos 0 ≡ cond b z (pos 0)
kept_nothing true z h = sym h
kept_nothing false z h = refl

-- a block of residuals whose coefficients have no level
pub no_levels : (quant keep : ℕ) (residuals : List ℤ)
    → ((k : ℕ) → inter_level quant (coefficient_at residuals k) ≡ pos 0) →
    record { levels = replicate 64 (pos 0) } ≡ residual_levels_of quant keep residuals
unfolding residual_levels_of
no_levels quant keep residuals none =
    let block : List ℤ → Block = λ ls. record { levels = ls } in
    ap block (fill_by_all (λ (k : ℕ). residual_level_of quant keep k (coefficient_at residuals k))
    (replicate 64 (pos 0)) 64 (pos 0) (length-replicate 64 (pos 0))
    (λ k h. get_or-replicate 64 k (pos 0) (pos 0) h
    ∙ kept_nothing (nat_lt k keep) (inter_level quant (coefficient_at residuals k)) (none k)))
