-- What the eight neighbours of a vector predict.
use Rattle.std.proofs.Common.{◌≡◌, refl, ap, ◌∙◌, arith, ℕ, ◌+◌, ◌-◌, ◌*◌, ◌%◌, ◌<◌, ◌≤◌, List, ◌++◌, length, get_or, drop, take, slice_range, true, nat_eq, ℤ, pos, ◌+ℤ◌, ◌-ℤ◌, unsigned_abs}
use lib.Lanes.{chunk}
use Rattle.std.proofs.lemmas.Int.{ints}
use Rattle.std.proofs.lemmas.Simd.{length-chunk, get_or-chunk}
use Rattle.sad_kernel.specs.Differences.{differences}
use Rattle.h263_types.specs.declared.vector.Vector.{Vector}
use Rattle.h263_planes.specs.Picture.{Picture}
use Rattle.half_sample.specs.Around.{down_by, right_by, IsBetween}
use Rattle.half_sample.specs.Prediction.{one_below}
use Rattle.motion_search.specs.Cost.{square, difference_of, predicted_of}
use Rattle.motion_search.specs.Rows.{rows_from}
use Rattle.motion_search.specs.Vectors.{vector_around, IsEven}
use Rattle.motion_search.proofs.Blocks.{is_square, row_cut}
use Rattle.motion_search.proofs.Squares.{same_vectors}

-- 256 samples of a longer list are a square
pub part_is_square : (out : List ℕ) (f : ℕ → ℕ → ℕ) (at : ℕ) → at + 256 ≤ length out →
    ((j i : ℕ) → j < 16 → i < 16 → get_or out (at + (16 * j + i)) 0 ≡ f i j) → slice_range out at (at + 256) ≡ square f
part_is_square out f at room same =
    let n : at + 256 - at ≡ 256 = omega arith in
    let part : slice_range out at (at + 256) ≡ chunk at 256 out = ap (λ (k : ℕ). take k (drop at out)) n in
    part
    ∙ is_square (chunk at 256 out) f (length-chunk at 256 out room)
    (λ j i hj hi. get_or-chunk at 256 out (16 * j + i) 0 (omega (arith, hj, hi)) ∙ same j i hj hi)

-- a row of a block of 256 samples, and the rows after it
pub stored_row_cut : (block samples : List ℕ) (j : ℕ) →
    ((xs ys us vs : List ℕ) → length xs ≡ length us → differences (xs ++ ys) (us ++ vs)
    ≡ differences xs us + differences ys vs) →
    j < 16 → length block ≡ 256 → length samples ≡ 256 →
    differences (slice_range block (16 * j) (16 * j + 16)) (slice_range samples (16 * j) (16 * j + 16)) + rows_from
    block samples (j + 1) ≡ rows_from block samples j
unfolding rows_from
stored_row_cut block samples j add hj hb hs =
    let n : 16 * j + 16 - 16 * j ≡ 16 = omega arith in
    let part = λ (xs : List ℕ). ap (λ (k : ℕ). take k (drop (16 * j) xs)) n in
    cc (part block, part samples, row_cut block samples j add hj hb hs)

-- all rows of two blocks
pub rows_from_first : (block samples : List ℕ) → rows_from block samples 0 ≡ differences block samples
unfolding rows_from
rows_from_first block samples = refl

-- a block differs from what a vector predicts as it does from the same samples
pub predicted_differ : (block samples : List ℕ) (p : Picture) (mb r : ℕ) (v : Vector) → samples ≡ predicted_of p mb r v
    → differences block samples ≡ difference_of block p mb r v
unfolding difference_of
predicted_differ block samples p mb r v e = ap (differences block) e

-- ---- the neighbours of a vector, from the one above on the left

module _ (v w : Vector) (e : w ≡ vector_around v 0) where
  from_up_left : (to : Vector → Vector) (k : ℕ) → (to (vector_around v 0)).x ≡ (vector_around v k).x
      → (to (vector_around v 0)).y ≡ (vector_around v k).y → to w ≡ vector_around v k
  from_up_left to k ex ey = ap to e
      ∙ same_vectors (to (vector_around v 0)).x (vector_around v k).x (to (vector_around v 0)).y
      (vector_around v k).y ex ey

  pub above : right_by 1 w ≡ vector_around v 1
  above = from_up_left (right_by 1) 1 (omega (arith, ints)) (omega (arith, ints))

  pub above_right : right_by 2 w ≡ vector_around v 2
  above_right = from_up_left (right_by 2) 2 (omega (arith, ints)) (omega (arith, ints))

  pub at_left : down_by 1 w ≡ vector_around v 3
  at_left = from_up_left (down_by 1) 3 (omega (arith, ints)) (omega (arith, ints))

  pub at_right : down_by 1 (right_by 2 w) ≡ vector_around v 5
  at_right = from_up_left (λ u. down_by 1 (right_by 2 u)) 5 (omega (arith, ints)) (omega (arith, ints))

  pub below_left : one_below w ≡ vector_around v 6
  below_left = from_up_left one_below 6 (omega (arith, ints)) (omega (arith, ints))

  pub below : one_below (right_by 1 w) ≡ vector_around v 7
  below = from_up_left (λ u. one_below (right_by 1 u)) 7 (omega (arith, ints)) (omega (arith, ints))

  pub below_right : one_below (right_by 2 w) ≡ vector_around v 8
  below_right = from_up_left (λ u. one_below (right_by 2 u)) 8 (omega (arith, ints)) (omega (arith, ints))

-- half a sample before a whole one
half_before : (z : ℤ) → unsigned_abs z % 2 ≡ 0 → nat_eq (unsigned_abs (z +ℤ (pos 0 -ℤ pos 1)) % 2) 1 ≡ true
half_before z h = let e : unsigned_abs (z +ℤ (pos 0 -ℤ pos 1)) % 2 ≡ 1 = omega (arith, ints, h) in
    ap (λ (n : ℕ). nat_eq n 1) e

-- of a vector of whole samples the one above on the left leads half a sample across and down
pub up_left_between : (v : Vector) → IsEven v → IsBetween (vector_around v 0)
up_left_between v h = record { x = half_before v.x h.x; y = half_before v.y h.y }
