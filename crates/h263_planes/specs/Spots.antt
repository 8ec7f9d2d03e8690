-- The samples of a picture by one number each: those of Y by rows from the top, then those of Cb, then those of Cr.
use Rattle.std.specs.Prelude.{◌≡◌, ℕ, ◌+◌, ◌-◌, ◌*◌, ◌/◌, ◌%◌, ◌<◌, nat_lt, if◌then◌else◌}
use Rattle.h263_types.specs.declared.format.Format.{Format}
use Rattle.h263_types.specs.Sizes.{mbs_of}
use Rattle.h263_planes.specs.declared.Plane.{Plane}
use Rattle.h263_planes.specs.declared.Plane.TheVariants.{Y, Cb, Cr}
use Rattle.h263_planes.specs.Picture.{Picture}
use Rattle.h263_planes.specs.Layout.{width_in, offset_of}
use Rattle.h263_planes.specs.Samples.{Inside, IsWhole, sample_at}
use Rattle.h263_planes.specs.Given.{picture_with}
use Rattle.h263_planes.specs.Blocks.{mb_of}

pub record Spot : Type 0 where
  pub plane : Plane
  pub x : ℕ
  pub y : ℕ

abbrev pub spot_in : Format → Plane → ℕ → Spot
spot_in f plane s = record { plane = plane; x = s % width_in f plane; y = s / width_in f plane }

-- the place of sample s
unfoldable pub spot : Format → ℕ → Spot
spot f s =
    if nat_lt s (offset_of f Cb) then spot_in f Y s
    else if nat_lt s (offset_of f Cr) then spot_in f Cb (s - offset_of f Cb)
    else spot_in f Cr (s - offset_of f Cr)

-- the number of the sample in column x of row y of a plane
abbrev pub sample_number : Format → Plane → ℕ → ℕ → ℕ
sample_number f plane x y = offset_of f plane + (width_in f plane * y + x)

abbrev pub sample_of : Picture → Spot → ℕ
sample_of p at = sample_at p at.plane at.x at.y

-- the macroblock that holds sample s. A number after the last sample has a macroblock after the last one
abbrev pub owner_of : Format → ℕ → ℕ
owner_of f s = mb_of f (spot f s).plane (spot f s).x (spot f s).y

-- the picture whose samples are these by their numbers
abbrev pub picture_by : Format → (ℕ → ℕ) → Picture
picture_by f g = picture_with f (λ plane x y. g (sample_number f plane x y))

-- what ties numbers and places
pub record AreSpots : Type 0 where
  pub spot_is : (f : Format) (plane : Plane) (x y : ℕ) → Inside f plane x y 1
      → spot f (sample_number f plane x y) ≡ (record { plane = plane; x = x; y = y })
  pub number_is : (f : Format) (s : ℕ) → sample_number f (spot f s).plane (spot f s).x (spot f s).y ≡ s
  pub inside : (f : Format) (s : ℕ) → owner_of f s < mbs_of f → Inside f (spot f s).plane (spot f s).x (spot f s).y 1
  pub in_picture : (f : Format) (plane : Plane) (x y : ℕ) → Inside f plane x y 1 → mb_of f plane x y < mbs_of f
  pub owner_is : (f : Format) (plane : Plane) (x y : ℕ)
      → Inside f plane x y 1 → owner_of f (sample_number f plane x y) ≡ mb_of f plane x y

-- a picture is its samples by their numbers
pub record ArePicturesBySamples : Type 0 where
  pub only : (f : Format) (p : Picture) (g : ℕ → ℕ) → p.format ≡ f → IsWhole p
      → ((s : ℕ) → owner_of f s < mbs_of f → sample_of p (spot f s) ≡ g s) → p ≡ picture_by f g
  pub sample : (f : Format) (g : ℕ → ℕ) (s : ℕ) → owner_of f s < mbs_of f → sample_of (picture_by f g) (spot f s) ≡ g s
  pub same : (f : Format) (g h : ℕ → ℕ)
      → ((s : ℕ) → owner_of f s < mbs_of f → g s ≡ h s) → picture_by f g ≡ picture_by f h
