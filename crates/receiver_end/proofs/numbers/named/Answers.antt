use Rattle.std.proofs.Common.{ℕ, Option, ap, sym, ◌∙◌}
use Rattle.std.specs.Prelude.{option_and_then}
use Rattle.h263_types.specs.Clocks.{half_of}
use Rattle.h263_types.specs.declared.params.Params.{Params}
use Rattle.call_model.specs.Sending.{nearest_below}
use Rattle.call_decoding.specs.Rules.{rules_of}
use Rattle.receiver_end.proofs.numbers.named.Goals as goal

-- the number that a temporal reference names, if there is one
abbrev named_at : Params → ℕ → Option ℕ → Option ℕ
named_at p number trp = option_and_then (nearest_below (rules_of p) number) trp

pub returns-in-None : goal.returns-in-None
returns-in-None c p same = ap (named_at p c.args.number) (sym c.in-None.is)

pub returns-in-Some : goal.returns-in-Some
returns-in-Some c p same =
    c.nearest_below.ensures.value (rules_of p) (ap half_of same) ∙ ap (named_at p c.args.number) (sym c.in-Some.is)
