-- Pictures by their samples.
use Rattle.std.specs.Prelude.{ℕ, ◌*◌, ◌/◌, ◌%◌, List, map}
use Rattle.std.specs.List.{range_with_len}
use Rattle.h263_types.specs.declared.format.Format.{Format}
use Rattle.h263_planes.specs.declared.Plane.{Plane}
use Rattle.h263_planes.specs.declared.Plane.TheVariants.{Y, Cb, Cr}
use Rattle.h263_planes.specs.Layout.{width_in, height_in}
use Rattle.h263_planes.specs.Picture.{Picture}

-- the samples of a plane by rows, each given by its column and row
abbrev pub plane_with : Format → Plane → (Plane → ℕ → ℕ → ℕ) → List ℕ
plane_with f plane sample =
    map (λ k. sample plane (k % width_in f plane) (k / width_in f plane))
    (range_with_len 0 (width_in f plane * height_in f plane))

-- the picture of a format whose every sample is given by its plane, column and row
unfoldable pub picture_with : Format → (Plane → ℕ → ℕ → ℕ) → Picture
picture_with f sample =
    record { format = f; y = plane_with f Y sample; cb = plane_with f Cb sample; cr = plane_with f Cr sample }
