use Rattle.std.proofs.Common.{◌∙◌, sym, ap, subst, arith, ◌<◌}
use Rattle.h263_types.specs.declared.format.Format.{Format}
use Rattle.h263_types.specs.Sizes.{mbs_of}
use Rattle.h263_planes.specs.Lent.{picture}
use Rattle.h263_planes.specs.Picture.{Picture}
use Rattle.test_layers.proofs.motion_search_rows.found.Goals as goal

pub search-cost-requires-clause-format : goal.search-cost-requires-clause-format
search-cost-requires-clause-format c = ap (λ (p : Picture). p.format) c.new-frame.ensures.picture
    ∙ sym (ap (λ (p : Picture). p.format) c.new-reference.ensures.picture)

pub search-cost-requires-clause-mb : goal.search-cost-requires-clause-mb
search-cost-requires-clause-mb c = subst (λ (f : Format). c.args.mb < mbs_of f)
    (sym (ap (λ (p : Picture). p.format) c.new-reference.ensures.picture)) (omega arith)

pub search_from-again-requires-clause-format : goal.search_from-again-requires-clause-format
search_from-again-requires-clause-format c = ap (λ (p : Picture). p.format) c.new-frame.ensures.picture
    ∙ sym (ap (λ (p : Picture). p.format) c.new-reference.ensures.picture)

pub search_from-again-requires-clause-mb : goal.search_from-again-requires-clause-mb
search_from-again-requires-clause-mb c = subst (λ (f : Format). c.args.mb < mbs_of f)
    (sym (ap (λ (p : Picture). p.format) c.new-reference.ensures.picture)) (omega arith)

pub search_from-again-requires-clause-sums : goal.search_from-again-requires-clause-sums
search_from-again-requires-clause-sums c = c.none-sums.ensures (picture c.new-reference.result)
