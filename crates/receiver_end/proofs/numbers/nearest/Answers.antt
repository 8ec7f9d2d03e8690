use Rattle.std.proofs.Common.{ℕ, ◌+◌, ◌∙◌, ap, sym}
use Rattle.h263_types.specs.Clocks.{half_of}
use Rattle.call_model.specs.Sending.{nearest, nearest_below}
use Rattle.call_decoding.specs.Rules.{rules_of}
use Rattle.receiver_end.proofs.numbers.nearest.Goals as goal

pub returns-clause-value : goal.returns-clause-value
unfolding nearest
returns-clause-value c p same =
    c.nearest_below.ensures.value (rules_of p) (ap half_of same)
    ∙ ap (λ (k : ℕ). nearest_below (rules_of p) (c.args.played + k) c.args.rest) (c.half.ensures
    ∙ ap half_of (sym same))
