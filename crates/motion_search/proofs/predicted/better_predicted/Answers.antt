use Rattle.std.proofs.Common.{◌∙◌, ap, sym, subst}
use Rattle.motion_search.specs.declared.candidate.Candidate.{Candidate}
use Rattle.motion_search.specs.Order.{earlier_of}
use Rattle.motion_search.specs.Cost.{IsCost}
use Rattle.motion_search.proofs.Blocks.{costing}
use Rattle.motion_search.proofs.Orders.{first_has}
use Rattle.motion_search.proofs.predicted.better_predicted.Goals as goal

pub returns-clause-first : goal.returns-clause-first
returns-clause-first c =
    c.first.ensures ∙ ap (earlier_of c.args.best) (c.with_differences.ensures.candidate
    ∙ ap (costing c.args.vector) c.differences_of_one-sum.ensures.value)

pub returns-clause-cost : goal.returns-clause-cost
returns-clause-cost c =
    subst (λ (d : Candidate). IsCost d.cost) (sym c.first.ensures)
    (first_has (λ (d : Candidate). IsCost d.cost) c.args.best c.with_differences.result c.requires.cost
    c.with_differences.ensures.cost)
