use Rattle.std.proofs.Common.{ℕ, Bool, ◌||◌, List, ap, sym, ◌∙◌}
use Rattle.call_model.specs.CodedPictures.{is_among}
use Rattle.reference_selector.proofs.Flags.{among_one}
use Rattle.reference_selector.proofs.Keeping.{same_known}
use Rattle.reference_selector.proofs.Selector.mark_called.Goals as goal

pub returns-in-Some-clause-known : goal.returns-in-Some-clause-known
returns-in-Some-clause-known c rules depth known stands =
    same_known rules c.mark.new.self c.args.sent depth _ _
    (λ m. ap (λ (b : Bool). b || known m) (sym (among_one c.in-Some.q m)
    ∙ ap (λ (l : List ℕ). is_among l m) (c.in-Some.ensures.value rules stands.half)))
    (c.mark.ensures.known rules depth known stands)
