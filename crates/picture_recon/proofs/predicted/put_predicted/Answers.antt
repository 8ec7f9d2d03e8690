use Rattle.h263_planes.specs.Blocks.{mb_of}
use Rattle.std.proofs.Common.{nat_eq}
use Rattle.picture_recon.proofs.InSquare.{each_plane}
use Rattle.picture_recon.proofs.predicted.put_predicted.Goals as goal

pub returns-clause-samples : goal.returns-clause-samples
returns-clause-samples c = λ p v r same is plane x y h.
    each_plane plane (nat_eq (mb_of c.args.format plane x y) c.args.at) _ _ _ _ _
    (c.put_plane-3.ensures.samples p v r same is.cr plane x y h)
    (c.put_plane-2.ensures.samples p v r same is.cb plane x y h)
    (c.put_plane.ensures.samples p v r same is.y plane x y h)
