use Rattle.std.proofs.Common.{subst, ℤ, ◌↔◌}
use Rattle.h263_types.specs.declared.format.Format.{Format}
use Rattle.h263_types.specs.Vectors.{InReach, IsWithin}
use Rattle.h263_planes.specs.Lent.{picture}
use Rattle.motion_search.specs.Vectors.{vector_around}
use Rattle.motion_search.proofs.Bests.{settled_is_best_near}
use Rattle.motion_search.proofs.Nears.{nine_within}
use Rattle.motion_search.proofs.half.best_of_neighbours.Goals as goal

pub returns-then-is_settled-clause-best : goal.returns-then-is_settled-clause-best
returns-then-is_settled-clause-best c =
    settled_is_best_near c.args.block.now (picture c.args.reference) c.args.mb c.args.rounding c.args.best
    c.requires.candidate (c.is_settled.ensures.0 c.if-is_settled.true)

pub best_at_edge-requires-clause-reach : goal.best_at_edge-requires-clause-reach
best_at_edge-requires-clause-reach c =
    subst (λ (f : Format). (x y : ℤ) → InReach f c.args.mb x y ↔ IsWithin c.reach-reach.result x y)
    c.format.ensures.format c.reach-reach.ensures

pub best_inside-requires-clause-inside : goal.best_inside-requires-clause-inside
best_inside-requires-clause-inside c = λ k hk.
    let v = c.args.best.vector in
    let are = c.are_within.ensures.0 c.if-are_within.true in
    let iff = subst (λ (f : Format). (x y : ℤ) → InReach f c.args.mb x y ↔ IsWithin c.reach-reach.result x y)
    c.format.ensures.format c.reach-reach.ensures in
    (iff (vector_around v k).x (vector_around v k).y).1
    (nine_within c.reach-reach.result v c.neighbour-up_left.result c.neighbour-down_right.result k hk
    c.neighbour-up_left.ensures c.neighbour-down_right.ensures are.0 are.1)
