use Rattle.std.proofs.Common.{◌∙◌, sym, ap, subst, arith, ◌<◌, Some}
use Rattle.h263_types.specs.declared.format.Format.{Format}
use Rattle.h263_types.specs.Sizes.{mbs_of}
use Rattle.h263_planes.specs.Lent.{picture}
use Rattle.h263_planes.specs.Picture.{Picture}
use Rattle.test_layers.proofs.mode_choice_rows.chosen.Goals as goal

pub choose_into-requires-clause-reference : goal.choose_into-requires-clause-reference
choose_into-requires-clause-reference c = ap (λ (p : Picture). p.format) c.new-reference.ensures.picture
    ∙ sym (ap (λ (p : Picture). p.format) c.new-frame.ensures.picture)

pub choose_into-requires-clause-mb : goal.choose_into-requires-clause-mb
choose_into-requires-clause-mb c = subst (λ (f : Format). c.args.mb < mbs_of f)
    (sym (ap (λ (p : Picture). p.format) c.new-frame.ensures.picture)) (omega arith)

pub choose_into-requires-clause-sums : goal.choose_into-requires-clause-sums
choose_into-requires-clause-sums c = c.new-chosen.ensures.sums (Some (picture c.new-reference.result))
