-- The samples of a picture.
use Rattle.std.specs.Prelude.{ℕ, ◌+◌, ◌*◌, ◌<◌, ◌≤◌, ◌≡◌, List, ◌++◌, length, slice_index, Bool, true, false, ◌&&◌, nat_eq, nat_le, nat_lt, slice_set}
use lib.Seq.{sets}
use Rattle.h263_types.specs.declared.format.Format.{Format}
use Rattle.h263_planes.specs.declared.Plane.{Plane}
use Rattle.h263_planes.specs.declared.Plane.TheVariants.{Y, Cb, Cr}
use Rattle.h263_planes.specs.Layout.{width_in, height_in}
use Rattle.h263_planes.specs.Picture.{Picture}

-- the samples of a plane, by rows from the top
abbrev pub plane_of : Picture → Plane → List ℕ
plane_of p Y = p.y
plane_of p Cb = p.cb
plane_of p Cr = p.cr

-- the sample in column x of row y
abbrev pub sample_at : Picture → Plane → ℕ → ℕ → ℕ
sample_at p plane x y = slice_index (plane_of p plane) (width_in p.format plane * y + x)

-- the n samples of row y from column x on lie inside the plane
pub record Inside (f : Format) (plane : Plane) (x y n : ℕ) : Type 0 where
  pub in_row : x + n ≤ width_in f plane
  pub in_plane : y < height_in f plane

-- each plane has as many samples as the format says
pub record IsWhole (p : Picture) : Type 0 where
  pub lengths : (plane : Plane) → length (plane_of p plane) ≡ width_in p.format plane * height_in p.format plane

-- samples from 0 to 255
abbrev pub AreSamples : List ℕ → Type 0
AreSamples samples = (k : ℕ) → slice_index samples k < 256

-- a picture: whole planes of samples
pub record IsPicture (p : Picture) : Type 0 where
  pub whole : IsWhole p
  pub samples : (plane : Plane) → AreSamples (plane_of p plane)

-- the sample at each place of a picture of p's format is the same in both
pub record HasSameSamples (p q : Picture) : Type 0 where
  pub samples : (plane : Plane) (x y : ℕ) → Inside p.format plane x y 1 → sample_at p plane x y ≡ sample_at q plane x y

-- a picture's planes one after the other
abbrev pub bytes_of : Picture → List ℕ
bytes_of p = p.y ++ p.cb ++ p.cr

-- the picture with another list for one plane
abbrev pub with_plane : Picture → Plane → List ℕ → Picture
with_plane p Y samples = record p { y = samples }
with_plane p Cb samples = record p { cb = samples }
with_plane p Cr samples = record p { cr = samples }

-- the picture with another sample in column x of row y
abbrev pub with_sample : Picture → Plane → ℕ → ℕ → ℕ → Picture
with_sample p plane x y v =
    with_plane p plane (slice_set (plane_of p plane) (width_in p.format plane * y + x) v)

-- the picture with a run of samples from column x of row y on
abbrev pub with_samples : Picture → Plane → ℕ → ℕ → List ℕ → Picture
with_samples p plane x y run = with_plane p plane (sets (plane_of p plane) (width_in p.format plane * y + x) run)

-- whether two planes are the same
abbrev pub same_plane : Plane → Plane → Bool
same_plane Y Y = true
same_plane Cb Cb = true
same_plane Cr Cr = true
same_plane _ _ = false

-- the sample in column i of row j of a plane is one of the n from column x of row y of this plane on
abbrev pub in_run : Plane → ℕ → ℕ → ℕ → Plane → ℕ → ℕ → Bool
in_run plane x y n other i j = same_plane plane other && (nat_eq j y && (nat_le x i && nat_lt i (x + n)))

-- the sample in column i of row j of a plane is one of the block of w x h samples from column x of
-- row y of this plane on
abbrev pub in_block : Plane → ℕ → ℕ → ℕ → ℕ → Plane → ℕ → ℕ → Bool
in_block plane x y w h other i j =
    same_plane plane other && ((nat_le y j && nat_lt j (y + h)) && (nat_le x i && nat_lt i (x + w)))
