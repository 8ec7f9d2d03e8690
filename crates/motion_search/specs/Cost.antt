-- What a vector costs.
use Rattle.std.specs.Prelude.{ℕ, ◌+◌, ◌*◌, ◌/◌, ◌%◌, ℤ, pos, ◌-ℤ◌, ◌≤ℤ◌, neg_ℤ, List, map, drop, ◌&&◌, if◌then◌else◌}
use Rattle.std.specs.List.{range_with_len}
use Rattle.std.specs.Ordering.{int_eq}
use Rattle.h263_types.specs.declared.vector.Vector.{Vector}
use Rattle.h263_types.specs.Sizes.{columns_of}
use Rattle.h263_planes.specs.Picture.{Picture}
use Rattle.h263_planes.specs.Samples.{sample_at}
use Rattle.h263_planes.specs.declared.Plane.TheVariants.{Y}
use Rattle.half_sample.specs.Prediction.{predicted_sample}
use Rattle.sad_kernel.specs.Differences.{differences}
use Rattle.motion_search.specs.declared.candidate.Candidate.{Candidate}

-- the 16 x 16 numbers that are given by their column and row, by rows from the top
unfoldable pub square : (ℕ → ℕ → ℕ) → List ℕ
square f = map (λ k. f (k % 16) (k / 16)) (range_with_len 0 256)

-- the luma samples of macroblock mb
abbrev pub samples_of : Picture → ℕ → List ℕ
samples_of p mb = square (λ i j.
    sample_at p Y (16 * (mb % columns_of p.format) + i) (16 * (mb / columns_of p.format) + j))

-- those that a vector predicts
abbrev pub predicted_of : Picture → ℕ → ℕ → Vector → List ℕ
predicted_of reference mb rounding v =
    square (λ i j. predicted_sample reference Y (16 * (mb % columns_of reference.format) + i)
    (16 * (mb / columns_of reference.format) + j) v rounding)

-- the differences of the rows from row j on of a block from those of the block at column x of row y
unfoldable pub differences_from : List ℕ → Picture → ℕ → ℕ → ℕ → ℕ
differences_from block p x y j =
    differences (drop (16 * j) block) (drop (16 * j) (square (λ a b. sample_at p Y (x + a) (y + b))))

-- the differences of a block of samples from what a vector predicts
unfoldable pub difference_of : List ℕ → Picture → ℕ → ℕ → Vector → ℕ
difference_of block reference mb rounding v = differences block (predicted_of reference mb rounding v)

-- what the zero vector has ahead of all others, since it is the cheapest to code
abbrev pub lead_of : Vector → ℕ
lead_of v = if int_eq v.x (pos 0) && int_eq v.y (pos 0) then 100 else 0

abbrev pub cost_of : List ℕ → Picture → ℕ → ℕ → Vector → ℤ
cost_of block reference mb rounding v = pos (difference_of block reference mb rounding v) -ℤ pos (lead_of v)

-- a vector with its cost
abbrev pub candidate_of : List ℕ → Picture → ℕ → ℕ → Vector → Candidate
candidate_of block reference mb rounding v = record { vector = v; cost = cost_of block reference mb rounding v }

-- a cost: 256 differences of at most 255, and what the zero vector has ahead
pub record IsCost (cost : ℤ) : Type 0 where
  pub low : neg_ℤ (pos 100) ≤ℤ cost
  pub high : cost ≤ℤ pos 65280
