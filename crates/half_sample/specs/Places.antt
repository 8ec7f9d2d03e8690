-- Where a vector leads from a macroblock, and the block that is read there.
use Rattle.std.specs.Prelude.{◌≡◌, ℕ, ◌+◌, ◌-◌, ◌*◌, ◌/◌, ◌%◌, ◌<◌, pos, ◌+ℤ◌, List, slice_index}
use Rattle.h263_types.specs.declared.format.Format.{Format}
use Rattle.h263_types.specs.declared.vector.Vector.{Vector}
use Rattle.h263_types.specs.Sizes.{columns_of}
use Rattle.h263_planes.specs.Picture.{Picture}
use Rattle.h263_planes.specs.declared.Plane.{Plane}
use Rattle.half_sample.specs.declared.place.Half.{Half}
use Rattle.half_sample.specs.declared.place.Place.{Place}
use Rattle.half_sample.specs.Prediction.{interpolated, is_half, whole_part, ReadsInside}

-- the place to which the whole samples of a vector lead from macroblock `mb`, which has n columns and rows of samples
-- in the plane
pub record LeadsTo (n : ℕ) (f : Format) (plane : Plane) (mb : ℕ) (v : Vector) (to : Place) : Type 0 where
  pub x : pos to.x ≡ pos (n * (mb % columns_of f)) +ℤ whole_part plane v.x
  pub y : pos to.y ≡ pos (n * (mb / columns_of f)) +ℤ whole_part plane v.y

-- and whether it leads half a sample further
pub record IsHalfOf (plane : Plane) (v : Vector) (half : Half) : Type 0 where
  pub x : half.x ≡ is_half plane v.x
  pub y : half.y ≡ is_half plane v.y

-- what h rows of n predicted samples read from a place on lies inside the plane
abbrev pub BlockInside : ℕ → ℕ → Format → Plane → Place → Half → Type 0
BlockInside n h f plane at half = ReadsInside f plane half.x half.y at.x (at.y + (h - 1)) n

-- h rows of n samples are those from a place on, or half a sample further
abbrev pub AreInterpolated : ℕ → ℕ → Picture → Plane → Place → Half → ℕ → List ℕ → Type 0
AreInterpolated n h p plane at half r samples =
    (j i : ℕ) → j < h → i < n → slice_index samples (n * j + i)
    ≡ interpolated p plane half.x half.y r (at.x + i) (at.y + j)
