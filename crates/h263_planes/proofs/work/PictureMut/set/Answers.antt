use Rattle.std.proofs.Common.{ap, ◌∙◌}
use Rattle.h263_planes.specs.Layout.{picture_of}
use Rattle.h263_planes.proofs.Pictures.{put_one, one_sample}
use Rattle.h263_planes.proofs.work.PictureMut.set.Goals as goal

pub returns-clause-picture : goal.returns-clause-picture
returns-clause-picture c =
    ap (picture_of c.args.self.now.layout.format) c.put_sample.ensures.after
    ∙ put_one c.args.self.now.layout.format c.args.self.now.bytes.now c.args.plane _ c.args.x c.args.y c.args.value
    c.place-at.ensures c.requires.in_row c.requires.in_plane

pub returns-clause-samples : goal.returns-clause-samples
returns-clause-samples c other i j h =
    one_sample c.args.self.now.layout.format c.args.self.now.bytes.now _ c.args.plane other c.args.value c.args.x
    c.args.y i j c.args.self.now.whole c.requires.in_row c.requires.in_plane h.in_row
    (returns-clause-picture c)
