use Rattle.std.proofs.Common.{◌∙◌, ap, sym, subst, ℤ, pos, ◌<ℤ◌, w32, rules}
use Rattle.std.proofs.lemmas.Int.{to_z-of_z}
use mir.Val.{SFits}
use Rattle.motion_search.specs.declared.candidate.Candidate.{Candidate}
use Rattle.motion_search.specs.Cost.{IsCost}
use Rattle.motion_search.specs.Order.{earlier_of}
use Rattle.motion_search.proofs.Blocks.{costing}
use Rattle.motion_search.proofs.Halves.{stays_first}
use Rattle.motion_search.proofs.Orders.{first_has}
use Rattle.h263_types.specs.declared.vector.Vector.{Vector}
use Rattle.motion_search.proofs.half.better_neighbour.Goals as goal

pub returns-then-is_below-clause-first : goal.returns-then-is_below-clause-first
returns-then-is_below-clause-first c =
    let fits : SFits w32 c.args.so_far.cost = search rules in
    stays_first c.args.so_far c.args.vector c.args.n c.args.sum c.requires.n c.requires.whole
    (subst (λ (z : ℤ). z <ℤ pos c.args.sum) (to_z-of_z w32 c.args.so_far.cost fits)
    (c.is_below.ensures.0 c.if-is_below.true))

pub returns-clause-first : goal.returns-clause-first
returns-clause-first c =
    c.first.ensures
    ∙ ap (earlier_of c.args.so_far) (c.with_differences.ensures.candidate
    ∙ ap (λ (w : Vector). costing w c.args.sum) c.neighbour.ensures)

pub returns-clause-cost : goal.returns-clause-cost
returns-clause-cost c =
    subst (λ (d : Candidate). IsCost d.cost) (sym c.first.ensures)
    (first_has (λ (d : Candidate). IsCost d.cost) c.args.so_far c.with_differences.result c.requires.cost
    c.with_differences.ensures.cost)
