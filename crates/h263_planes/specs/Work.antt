-- The picture that a PictureMut lends.
use base.Fml.{GName}
use Rattle.h263_planes.specs.declared.work.PictureMut.{PictureMut}
use Rattle.h263_planes.specs.Layout.{picture_of}
use Rattle.h263_planes.specs.Picture.{Picture}

abbrev pub work : PictureMut → Picture
work r = picture_of r.layout.format r.bytes.now

-- which loan of bytes it writes to: the one from which it was made
abbrev pub loan_of : PictureMut → GName
loan_of r = r.bytes.ghost_name
