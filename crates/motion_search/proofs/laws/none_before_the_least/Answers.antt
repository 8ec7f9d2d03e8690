use Rattle.std.proofs.Common.{arith, ◌∷◌, false, ◌≡◌}
use Rattle.std.specs.List.{Contains}
use Rattle.std.proofs.lemmas.List.Elements.{All-cons, All-tail, Contains-get_or, All-contains_itself}
use Rattle.motion_search.specs.declared.candidate.Candidate.{Candidate}
use Rattle.motion_search.specs.Order.{before, least}
use Rattle.motion_search.proofs.Orders.{least_has, first_not_before, none_before}
use Rattle.motion_search.proofs.laws.none_before_the_least.Goals as goal

pub returns-clause-one_of_them : goal.returns-clause-one_of_them
returns-clause-one_of_them c = λ first cs.
    least_has (Contains (first ∷ cs)) first cs (Contains-get_or (first ∷ cs) 0 first (omega arith))
    (All-tail (Contains (first ∷ cs)) first cs (All-contains_itself (first ∷ cs)))

pub returns-clause-none_before : goal.returns-clause-none_before
returns-clause-none_before c = λ first cs.
    All-cons (λ (d : Candidate). before d (least first cs) ≡ false) first cs (first_not_before first cs)
    (none_before first cs)
