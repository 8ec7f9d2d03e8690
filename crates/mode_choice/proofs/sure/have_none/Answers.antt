use Rattle.std.proofs.Common.{◌∙◌, ap}
use Rattle.mode_choice.specs.Walk.{level_by}
use Rattle.mode_choice.specs.declared.coefficients.Coding.{Coding}
use Rattle.mode_choice.proofs.Sixteenths.{none_below}
use Rattle.mode_choice.proofs.sure.have_none.Goals as goal

pub returns-in-Inter : goal.returns-in-Inter
returns-in-Inter c small at f h near =
    ap (λ (coding : Coding). level_by coding c.args.quant f) c.in-Inter.is
    ∙ none_below c.args.quant c.least_size.result _ f c.least_size.ensures.value c.requires.quant near
    (c.are_below.ensures small at h)
