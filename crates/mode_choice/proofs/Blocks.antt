-- The samples of a macroblock by its six blocks, and by its square of luma.
use Rattle.std.proofs.Common.{◌≡◌, ℕ, zero, suc, ◌+◌, ◌*◌, ◌/◌, ◌%◌, ◌<◌, List, get_or, length, lit<, arith, ap, sym, subst, map, ◌∙◌, ℤ, pos, ◌-ℤ◌}
use Rattle.std.specs.List.{range_with_len}
use Rattle.std.proofs.lemmas.Int.{ints}
use Rattle.std.proofs.lemmas.List.FromFn.{fill_by_all}
use Rattle.h263_types.specs.declared.vector.Vector.{Vector}
use Rattle.h263_types.specs.Sizes.{columns_of}
use Rattle.h263_planes.specs.declared.Plane.{Plane}
use Rattle.h263_planes.specs.declared.Plane.TheVariants.{Y, Cb, Cr}
use Rattle.h263_planes.specs.declared.blocks.Corner.{Corner}
use Rattle.h263_planes.specs.Blocks.{corner_of}
use Rattle.h263_planes.specs.Picture.{Picture}
use Rattle.h263_planes.specs.Samples.{sample_at}
use Rattle.half_sample.specs.declared.macroblock.Predicted.{Predicted}
use Rattle.half_sample.specs.Macroblock.{IsPredicted}
use Rattle.half_sample.specs.Prediction.{ArePredicted, predicted_sample, moved_whole, whole_part}
use Rattle.motion_search.specs.Cost as luma
use Rattle.mode_choice.specs.Choice.{predicted_in_block, residuals_of, sample_in_block, samples_of_block}
use Rattle.mode_choice.specs.Residuals.{predicted_at}

-- the predicted samples of a block of luma, where they stand in those of the macroblock
sample_of_luma : (p : Picture) (mb r : ℕ) (v : Vector) (luma : List ℕ) (b : ℕ) → b < 4 → ArePredicted 16 p Y mb v r luma
    → (k : ℕ) → k < 64 →
    get_or luma (16 * (8 * (b / 2) + k / 8) + (8 * (b % 2) + k % 8)) 0
    ≡ predicted_sample p Y (16 * (mb % columns_of p.format) + 8 * (b % 2) + k % 8)
    (16 * (mb / columns_of p.format) + 8 * (b / 2) + k / 8) v r
sample_of_luma p mb r v luma b four predicted k hk =
    let column : 16 * (mb % columns_of p.format) + (8 * (b % 2) + k % 8)
    ≡ 16 * (mb % columns_of p.format) + 8 * (b % 2) + k % 8 = omega arith in
    let row : 16 * (mb / columns_of p.format) + (8 * (b / 2) + k / 8)
    ≡ 16 * (mb / columns_of p.format) + 8 * (b / 2) + k / 8 = omega arith in
    predicted (8 * (b / 2) + k / 8) (8 * (b % 2) + k % 8) (omega arith) (omega arith)
    ∙ ap (λ (x : ℕ). predicted_sample p Y x (16 * (mb / columns_of p.format) + (8 * (b / 2) + k / 8)) v r) column
    ∙ ap (λ (y : ℕ). predicted_sample p Y (16 * (mb % columns_of p.format) + 8 * (b % 2) + k % 8) y v r) row

sample_of_colour : (p : Picture) (plane : Plane) (mb r : ℕ) (v : Vector) (block : List ℕ)
    → ArePredicted 8 p plane mb v r block → (k : ℕ) → k < 64 →
    get_or block k 0 ≡ predicted_sample p plane (8 * (mb % columns_of p.format) + k % 8)
    (8 * (mb / columns_of p.format) + k / 8) v r
sample_of_colour p plane mb r v block predicted k hk =
    let e : k ≡ 8 * (k / 8) + k % 8 = omega arith in
    ap (λ (m : ℕ). get_or block m 0) e ∙ predicted (k / 8) (k % 8) (omega arith) (omega arith)

pub six_predicted : (p : Picture) (mb r : ℕ) (v : Vector) (samples : Predicted) → IsPredicted p mb v r samples →
    (b k : ℕ) → b < 6 → k < 64 → predicted_at samples b k ≡ predicted_in_block p r mb v b k
six_predicted p mb r v samples is zero k hb hk = sample_of_luma p mb r v samples.y 0 (lit< tt) is.y k hk
six_predicted p mb r v samples is (suc zero) k hb hk = sample_of_luma p mb r v samples.y 1 (lit< tt) is.y k hk
six_predicted p mb r v samples is (suc (suc zero)) k hb hk = sample_of_luma p mb r v samples.y 2 (lit< tt) is.y k hk
six_predicted p mb r v samples is (suc (suc (suc zero))) k hb hk = sample_of_luma p mb r v samples.y 3
    (lit< tt) is.y k hk
six_predicted p mb r v samples is (suc (suc (suc (suc zero)))) k hb hk =
    sample_of_colour p Cb mb r v samples.cb is.cb k hk
six_predicted p mb r v samples is (suc (suc (suc (suc (suc zero))))) k hb hk =
    sample_of_colour p Cr mb r v samples.cr is.cr k hk
six_predicted p mb r v samples is (suc (suc (suc (suc (suc (suc b)))))) k hb hk = absurd (omega arith)

-- the 8 x 8 samples of a plane from the corner of a block on are the block's
pub square_is_block : (p : Picture) (mb b : ℕ) (corner : Corner) (plane : Plane) (samples : List ℤ)
    → corner ≡ corner_of p.format mb b → corner.plane ≡ plane → length samples ≡ 64 →
    ((k : ℕ) → k < 64 → get_or samples k (pos 0) ≡ pos (sample_at p plane (corner.x + k % 8) (corner.y + k / 8)))
    → samples ≡ samples_of_block p mb b
unfolding samples_of_block
square_is_block p mb b corner plane samples e same long each =
    subst (λ (corner : Corner). samples
    ≡ map (λ k. pos (sample_at p corner.plane (corner.x + k % 8) (corner.y + k / 8))) (range_with_len 0 64)) e
    (fill_by_all (λ (k : ℕ). pos (sample_at p corner.plane (corner.x + k % 8) (corner.y + k / 8))) samples 64
    (pos 0) long
    (λ k h. each k h ∙ ap (λ (plane : Plane). pos (sample_at p plane (corner.x + k % 8) (corner.y + k / 8)))
    (sym same)))

-- ---- what is left of a block

-- what is left of a block at each place is the list of its residuals
pub residuals_are : (p q : Picture) (r mb : ℕ) (v : Vector) (b : ℕ) (residuals : List ℤ) (predicted : ℕ → ℕ)
    → length residuals ≡ 64 →
    ((k : ℕ) → k < 64 → get_or residuals k (pos 0) ≡ (pos (sample_in_block p mb b k) -ℤ pos (predicted k))) →
    ((k : ℕ) → k < 64 → predicted k ≡ predicted_in_block q r mb v b k) → residuals ≡ residuals_of p q r mb v b
unfolding residuals_of
residuals_are p q r mb v b residuals predicted long each from =
    fill_by_all (λ (k : ℕ). pos (sample_in_block p mb b k) -ℤ pos (predicted_in_block q r mb v b k)) residuals 64
    (pos 0) long
    (λ k h. each k h ∙ ap (λ (n : ℕ). pos (sample_in_block p mb b k) -ℤ pos n) (from k h))

-- ---- luma

-- the zero vector stays
stays : (x : ℕ) → moved_whole x (whole_part Y (pos 0)) ≡ x
stays x = omega (arith, ints)

-- the zero vector predicts a picture's own samples
own_sample : (p : Picture) (x y : ℕ) → predicted_sample p Y x y (record { x = pos 0; y = pos 0 }) 0 ≡ sample_at p Y x y
own_sample p x y = ap (λ (i : ℕ). sample_at p Y i (moved_whole y (whole_part Y (pos 0)))) (stays x)
    ∙ ap (λ (j : ℕ). sample_at p Y x j) (stays y)

pub own_luma : (p : Picture) (mb : ℕ) (samples : List ℕ) → length samples ≡ 256
    → ArePredicted 16 p Y mb (record { x = pos 0; y = pos 0 }) 0 samples →
    samples ≡ luma.samples_of p mb
unfolding luma.square
own_luma p mb samples long predicted =
    let left = 16 * (mb % columns_of p.format) in
    let top = 16 * (mb / columns_of p.format) in
    fill_by_all (λ (k : ℕ). sample_at p Y (left + k % 16) (top + k / 16)) samples 256 0 long
    (λ k h.
    let place : k ≡ 16 * (k / 16) + k % 16 = omega arith in
    ap (λ (m : ℕ). get_or samples m 0) place ∙ predicted (k / 16) (k % 16) (omega arith) (omega arith)
    ∙ own_sample p (left + k % 16) (top + k / 16))
