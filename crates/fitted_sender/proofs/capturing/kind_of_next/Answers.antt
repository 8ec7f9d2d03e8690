use Rattle.std.proofs.Common.{ap, ◌∙◌}
use Rattle.fitted_sender.specs.Aiming.{kind_by}
use Rattle.fitted_sender.proofs.capturing.kind_of_next.Goals as goal

pub returns : goal.returns
returns c = λ run holds. c.kind_for.ensures ∙ ap kind_by (c.known.ensures run holds)
