use Rattle.std.proofs.Common.{ap}
use Rattle.h263_planes.specs.Picture.{Picture}
use Rattle.test_commands.proofs.made.add_frame.Goals as goal

pub frame-requires : goal.frame-requires
frame-requires c = ap (λ (p : Picture). p.format) c.new-picture.ensures.picture
