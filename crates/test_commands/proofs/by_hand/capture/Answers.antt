use Rattle.std.proofs.Common.{ap, sym, ◌∙◌}
use Rattle.h263_planes.specs.Picture.{Picture}
use Rattle.test_commands.proofs.by_hand.capture.Goals as goal

pub code-coded-requires-clause-frame : goal.code-coded-requires-clause-frame
code-coded-requires-clause-frame c = ap (λ (p : Picture). p.format) c.new-picture.ensures.picture
    ∙ sym c.requires.format

pub code-coded-requires-in-None-clause-frame : goal.code-coded-requires-in-None-clause-frame
code-coded-requires-in-None-clause-frame c =
    ap (λ (p : Picture). p.format) c.new-picture.ensures.picture ∙ sym c.requires.format
