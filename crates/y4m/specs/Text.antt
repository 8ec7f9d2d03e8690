-- The text of the pictures that are written.
use Rattle.std.specs.Prelude.{ℕ, List, [], ◌∷◌, ◌++◌, codes}
use Rattle.h263_types.specs.declared.format.Format.{Format}
use Rattle.h263_types.specs.declared.format.Format.TheVariants.{SubQcif, Qcif, Cif}
use Rattle.h263_types.specs.declared.Mark.{Mark}
use Rattle.h263_types.specs.declared.Mark.TheVariants.{Exact, Patched, Held}
use Rattle.h263_planes.specs.Picture.{Picture}
use Rattle.h263_planes.specs.Samples.{bytes_of}

-- the line that pictures of a format begin with
abbrev pub head_text : Format → List ℕ
head_text SubQcif = codes "YUV4MPEG2 W128 H96 F30000:1001 Ip C420jpeg" ++ 10 ∷ []
head_text Qcif = codes "YUV4MPEG2 W176 H144 F30000:1001 Ip C420jpeg" ++ 10 ∷ []
head_text Cif = codes "YUV4MPEG2 W352 H288 F30000:1001 Ip C420jpeg" ++ 10 ∷ []

-- the line before a picture
abbrev pub mark_text : Mark → List ℕ
mark_text Exact = codes "FRAME XEXACT" ++ 10 ∷ []
mark_text Patched = codes "FRAME XPATCHED" ++ 10 ∷ []
mark_text Held = codes "FRAME XHELD" ++ 10 ∷ []

-- a picture with its line
abbrev pub frame_text : Mark → Picture → List ℕ
frame_text mark picture = mark_text mark ++ bytes_of picture
