-- What the eight neighbours of a vector of whole samples predict.
use Rattle.std.specs.Prelude.{◌≡◌, ℕ, true, pos, ◌+ℤ◌, drop}
use Rattle.h263_types.specs.declared.vector.Vector.{Vector}
use Rattle.h263_planes.specs.Picture.{Picture}
use Rattle.h263_planes.specs.declared.Plane.TheVariants.{Y}
use Rattle.half_sample.specs.declared.around.Around.{Around}
use Rattle.half_sample.specs.Prediction.{one_below, is_half, ArePredicted}

-- the vectors n half samples further right, and further down
abbrev pub right_by : ℕ → Vector → Vector
right_by n v = record { x = v.x +ℤ pos n; y = v.y }

abbrev pub down_by : ℕ → Vector → Vector
down_by n v = record { x = v.x; y = v.y +ℤ pos n }

-- both components of a vector lead half a sample further
pub record IsBetween (v : Vector) : Type 0 where
  pub x : is_half Y v.x ≡ true
  pub y : is_half Y v.y ≡ true

-- The seventeen rows of each are those of two neighbours one whole sample apart, of which v is the one above on the
-- left; of those beside the vector the first row is not one of theirs.
pub record AreAround (p : Picture) (mb : ℕ) (v : Vector) (r : ℕ) (a : Around) : Type 0 where
  pub up_left : ArePredicted 16 p Y mb v r a.up_left
  pub up : ArePredicted 16 p Y mb (right_by 1 v) r a.up
  pub up_right : ArePredicted 16 p Y mb (right_by 2 v) r a.up_right
  pub left : ArePredicted 16 p Y mb (down_by 1 v) r (drop 16 a.left)
  pub right : ArePredicted 16 p Y mb (down_by 1 (right_by 2 v)) r (drop 16 a.right)
  pub down_left : ArePredicted 16 p Y mb (one_below v) r (drop 16 a.up_left)
  pub down : ArePredicted 16 p Y mb (one_below (right_by 1 v)) r (drop 16 a.up)
  pub down_right : ArePredicted 16 p Y mb (one_below (right_by 2 v)) r (drop 16 a.up_right)
