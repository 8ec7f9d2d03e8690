-- Rows of samples, and their averages in lanes.
use Rattle.std.specs.Prelude.{◌≡◌, ℕ, ◌+◌, ◌*◌, ◌<◌, Bool, true, false, List, length, map, slice_index}
use Rattle.std.specs.Int.RustNames.{bit_xor}
use Rattle.std.specs.List.{range_with_len}
use Rattle.std.specs.Simd.Lanes.{zip2, Each1}
use Rattle.h263_types.specs.declared.format.Format.{Format}
use Rattle.h263_planes.specs.Picture.{Picture}
use Rattle.h263_planes.specs.Samples.{sample_at, Inside}
use Rattle.h263_planes.specs.declared.Plane.TheVariants.{Y}
use Rattle.half_sample.specs.Averages.{average}
use Rattle.half_sample.specs.Prediction.{interpolated}
use Rattle.half_sample.specs.declared.around.Around.{Around}
use Rattle.half_sample.specs.declared.around.Line.{Line}
use Rattle.half_sample.specs.declared.place.Place.{Place}

-- n samples
pub record IsRowOfSamples (n : ℕ) (xs : List ℕ) : Type 0 where
  pub long : length xs ≡ n
  pub small : Each1 (λ x. x < 256) xs

-- the averages of two rows, rounded up, and numbers that are odd where the sums of two samples are
pub record AreMeans (xs ys means odds : List ℕ) : Type 0 where
  pub mean : means ≡ zip2 (average 0) xs ys
  pub odd : odds ≡ zip2 bit_xor xs ys

-- the sixteen luma samples from column x of row y on
unfoldable pub sixteen_from : Picture → ℕ → ℕ → List ℕ
sixteen_from p x y = map (λ i. sample_at p Y (x + i) y) (range_with_len 0 16)

-- what a line knows of eighteen luma samples from column x of row y on: the sixteen in the middle, and their
-- averages with the sixteen one column further left and with those one further right
pub record IsSampleLine (p : Picture) (x y : ℕ) (line : Line) : Type 0 where
  pub before : IsRowOfSamples 16 (sixteen_from p x y)
  pub middle : IsRowOfSamples 16 (sixteen_from p (x + 1) y)
  pub after : IsRowOfSamples 16 (sixteen_from p (x + 1 + 1) y)
  pub centre_samples : IsRowOfSamples 16 line.centre
  pub left_samples : IsRowOfSamples 16 line.left
  pub right_samples : IsRowOfSamples 16 line.right
  pub left_odd_long : length line.left_odd ≡ 16
  pub right_odd_long : length line.right_odd ≡ 16
  pub centre : line.centre ≡ sixteen_from p (x + 1) y
  pub left : AreMeans (sixteen_from p x y) (sixteen_from p (x + 1) y) line.left line.left_odd
  pub right : AreMeans (sixteen_from p (x + 1) y) (sixteen_from p (x + 1 + 1) y) line.right line.right_odd

-- n rows of sixteen luma samples are those from column x of row y on, or half a sample further right or down
abbrev pub AreRowsFrom : Picture → Bool → Bool → ℕ → ℕ → ℕ → ℕ → List ℕ → Type 0
AreRowsFrom p half_x half_y r x y n samples =
    (j i : ℕ) → j < n → i < 16 → slice_index samples (16 * j + i) ≡ interpolated p Y half_x half_y r (x + i) (y + j)

-- the eighteen rows of eighteen luma samples from a place on lie inside the picture
pub record ReadsAround (f : Format) (at : Place) : Type 0 where
  pub inside : Inside f Y at.x (at.y + 17) 18
  pub x : at.x < 65536
  pub y : at.y < 60000

-- those of the five places around column x + 1 of row y + 1
pub record AreRowsAround (p : Picture) (r x y n : ℕ) (a : Around) : Type 0 where
  pub left : AreRowsFrom p true false r x y n a.left
  pub right : AreRowsFrom p true false r (x + 1) y n a.right
  pub up : AreRowsFrom p false true r (x + 1) y n a.up
  pub up_left : AreRowsFrom p true true r x y n a.up_left
  pub up_right : AreRowsFrom p true true r (x + 1) y n a.up_right
