-- Sums of samples over areas of 8 x 8.
use Rattle.std.specs.Prelude.{◌≡◌, ℕ, zero, suc, ◌+◌, ◌*◌, ◌<◌, ◌≤◌, Option, None, Some, List, length, map, slice_index}
use Rattle.std.specs.List.{range_with_len}
use Rattle.h263_types.specs.Sizes.{height_of, width_of}
use Rattle.h263_planes.specs.Picture.{Picture}
use Rattle.h263_planes.specs.Samples.{sample_at, AreSamples}
use Rattle.h263_planes.specs.declared.Plane.TheVariants.{Y}
use Rattle.motion_search.specs.declared.areas.Columns.{Columns}
use Rattle.motion_search.specs.declared.areas.Quarters.{Quarters}
use Rattle.motion_search.specs.declared.kept.AreaRows.{AreaRows}
use Rattle.motion_search.specs.declared.kept.KeptSums.{KeptSums}

-- f 0 + f 1 + .. + f (n - 1)
unfoldable pub sum_of_first : (ℕ → ℕ) → ℕ → ℕ
sum_of_first f zero = 0
sum_of_first f (suc n) = sum_of_first f n + f n

-- the sum of the n samples of column x from row y down; samples are given by their column and row
unfoldable pub column_sum : (ℕ → ℕ → ℕ) → ℕ → ℕ → ℕ → ℕ
column_sum f x y n = sum_of_first (λ j. f x (y + j)) n

-- the sum of the 8 x 8 samples at column x of row y
unfoldable pub area_sum : (ℕ → ℕ → ℕ) → ℕ → ℕ → ℕ
area_sum f x y = sum_of_first (λ i. column_sum f (x + i) y 8) 8

abbrev pub AreSamplesAt : (ℕ → ℕ → ℕ) → Type 0
AreSamplesAt f = (i j : ℕ) → f i j < 256

-- sixteen lanes by their places
unfoldable pub sixteen : (ℕ → ℕ) → List ℕ
sixteen f = map f (range_with_len 0 16)

-- the samples of row y in columns 0 to 15, and in columns 16 to 31
pub record IsRow (f : ℕ → ℕ → ℕ) (y : ℕ) (xs ys : List ℕ) : Type 0 where
  pub left : (i : ℕ) → i < 16 → slice_index xs i ≡ f i y
  pub right : (i : ℕ) → i < 16 → slice_index ys i ≡ f (16 + i) y

-- the sums of the n samples from row y down in columns 0 to 31
pub record AreColumns (f : ℕ → ℕ → ℕ) (y n : ℕ) (c : Columns) : Type 0 where
  pub left : c.left ≡ sixteen (λ i. column_sum f i y n)
  pub right : c.right ≡ sixteen (λ i. column_sum f (16 + i) y n)

-- the samples of a block by their column and row
abbrev pub sample_of_block : List ℕ → ℕ → ℕ → ℕ
sample_of_block block i j = slice_index block (16 * j + i)

-- the sums of the four quarters of a block of samples
pub record AreQuarters (block : List ℕ) (q : Quarters) : Type 0 where
  pub long : length block ≡ 256
  pub samples : AreSamples block
  pub top_left : q.top_left ≡ area_sum (sample_of_block block) 0 0
  pub top_right : q.top_right ≡ area_sum (sample_of_block block) 8 0
  pub bottom_left : q.bottom_left ≡ area_sum (sample_of_block block) 0 8
  pub bottom_right : q.bottom_right ≡ area_sum (sample_of_block block) 8 8

-- the luma samples of a picture from column x on
abbrev pub samples_from : Picture → ℕ → ℕ → ℕ → ℕ
samples_from p x i j = sample_at p Y (x + i) j

-- sixteen columns of a picture from column x on, and sixteen from column z on to their right
pub record IsBeside (p : Picture) (x z : ℕ) (f : ℕ → ℕ → ℕ) : Type 0 where
  pub left : (i j : ℕ) → i < 16 → f i j ≡ sample_at p Y (x + i) j
  pub right : (i j : ℕ) → i < 16 → f (16 + i) j ≡ sample_at p Y (z + i) j

-- there are samples that are these
pub record AreSomeBeside (p : Picture) (x z : ℕ) : Type 0 where
  pub samples : ℕ → ℕ → ℕ
  pub bytes : AreSamplesAt samples
  pub beside : IsBeside p x z samples

-- the sums of eight rows of some samples
pub record AreSomeColumns (c : Columns) : Type 0 where
  pub samples : ℕ → ℕ → ℕ
  pub row : ℕ
  pub bytes : AreSamplesAt samples
  pub sums : AreColumns samples row 8 c

-- sums that are kept of a picture: those of all areas in the rows of areas from `first` to before
-- `end`, 384 places for each row. Places that no area of the picture has hold any sum that an area
-- can have.
pub record AreSumsOf (p : Picture) (s : KeptSums) : Type 0 where
  pub whole : length s.sums ≡ 14976
  pub order : s.first ≤ s.end
  pub room : s.end ≤ s.first + 39
  pub sums : (x k : ℕ) → x + 8 ≤ width_of p.format → s.first + k < s.end
      → slice_index s.sums (384 * k + x) ≡ area_sum (sample_at p Y) x (s.first + k)
  pub small : (k : ℕ) → slice_index s.sums k ≤ 16320

-- rows of areas for which there is room among those that are kept, and which lie inside a picture
pub record FitIn (p : Picture) (rows : AreaRows) : Type 0 where
  pub order : rows.begin ≤ rows.end
  pub room : rows.end ≤ 39
  pub low : rows.first < 60000
  pub down : rows.first + rows.end + 7 ≤ height_of p.format

-- the sums of the rows above these stay; where all sums were ones that an area can have, all still are
pub record LeavesRest (rows : AreaRows) (old new : List ℕ) : Type 0 where
  pub whole : length new ≡ 14976
  pub above : (k : ℕ) → k < 384 * rows.begin → slice_index new k ≡ slice_index old k
  pub small : ((k : ℕ) → slice_index old k ≤ 16320) → (k : ℕ) → slice_index new k ≤ 16320

-- the sums of all areas in these rows are written
pub record AreAdded (p : Picture) (rows : AreaRows) (old new : List ℕ) : Type 0 where
  pub rest : LeavesRest rows old new
  pub sums : (x k : ℕ) → x + 8 ≤ width_of p.format → rows.begin ≤ k → k < rows.end
      → slice_index new (384 * k + x) ≡ area_sum (sample_at p Y) x (rows.first + k)

-- sums that are kept of a reference that there may be
abbrev pub AreSumsOfAny : Option Picture → KeptSums → Type 0
AreSumsOfAny None s = Unit {0}
AreSumsOfAny (Some p) s = AreSumsOf p s
