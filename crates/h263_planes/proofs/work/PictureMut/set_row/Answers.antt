use Rattle.std.proofs.Common.{ap, ◌∙◌}
use Rattle.h263_planes.specs.Layout.{picture_of}
use Rattle.h263_planes.proofs.Pictures.{put_row, run_samples}
use Rattle.h263_planes.proofs.work.PictureMut.set_row.Goals as goal

pub returns-clause-picture : goal.returns-clause-picture
returns-clause-picture c =
    ap (picture_of c.args.self.now.layout.format) c.put_samples.ensures.after
    ∙ put_row c.args.self.now.layout.format c.args.plane c.args.samples.now c.args.self.now.bytes.now
    _ c.args.x c.args.y c.place-from.ensures c.requires.in_row c.requires.in_plane

pub returns-clause-samples : goal.returns-clause-samples
returns-clause-samples c other i j h =
    run_samples c.args.self.now.layout.format c.args.self.now.bytes.now _ c.args.plane other c.args.samples.now c.args.x
    c.args.y i j c.args.self.now.whole c.requires.in_row c.requires.in_plane h.in_row
    (returns-clause-picture c)
