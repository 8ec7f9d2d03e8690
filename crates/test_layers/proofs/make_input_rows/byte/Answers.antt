use Rattle.std.proofs.Common.{ap}
use Rattle.h263_planes.specs.Picture.{Picture}
use Rattle.test_layers.proofs.make_input_rows.byte.Goals as goal

pub frame-requires : goal.frame-requires
frame-requires c = ap (λ (p : Picture). p.format) c.new-out.ensures.picture
