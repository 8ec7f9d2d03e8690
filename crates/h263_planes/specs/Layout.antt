-- Where the planes lie in the bytes of a picture: Y, Cb, Cr, each by rows from the top.
use Rattle.std.specs.Prelude.{ℕ, ◌+◌, ◌*◌, ◌/◌, List, slice_range}
use Rattle.h263_types.specs.Sizes.{width_of, height_of}
use Rattle.h263_types.specs.declared.format.Format.{Format}
use Rattle.h263_planes.specs.declared.Plane.{Plane}
use Rattle.h263_planes.specs.declared.Plane.TheVariants.{Y, Cb, Cr}
use Rattle.h263_planes.specs.Picture.{Picture}

-- samples in a row of a plane
abbrev pub width_in : Format → Plane → ℕ
width_in f Y = width_of f
width_in f Cb = width_of f / 2
width_in f Cr = width_of f / 2

-- rows of a plane
abbrev pub height_in : Format → Plane → ℕ
height_in f Y = height_of f
height_in f Cb = height_of f / 2
height_in f Cr = height_of f / 2

-- where a plane begins
abbrev pub offset_of : Format → Plane → ℕ
offset_of f Y = 0
offset_of f Cb = width_of f * height_of f
offset_of f Cr = width_of f * height_of f + width_of f * height_of f / 4

-- the picture that a picture's bytes hold
abbrev pub picture_of : Format → List ℕ → Picture
picture_of f bytes =
    record {
      format = f;
      y = slice_range bytes (offset_of f Y) (offset_of f Cb);
      cb = slice_range bytes (offset_of f Cb) (offset_of f Cr);
      cr = slice_range bytes (offset_of f Cr) (offset_of f Cr + width_of f * height_of f / 4);
    }
