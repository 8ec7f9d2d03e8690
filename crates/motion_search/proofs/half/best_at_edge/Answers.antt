use Rattle.std.proofs.Common.{◌≡◌, ◌∙◌, ap, arith, subst, sym, true≢false}
use Rattle.h263_types.specs.declared.vector.Vector.{Vector}
use Rattle.h263_planes.specs.Lent.{picture}
use Rattle.motion_search.specs.declared.candidate.Candidate.{Candidate}
use Rattle.motion_search.specs.Cost.{IsCost}
use Rattle.motion_search.proofs.Bests.{passed_over, step_of, taken}
use Rattle.motion_search.proofs.Nears.{none_yet, one_more, all_eight}
use Rattle.motion_search.proofs.half.best_at_edge.Goals.{then-is_within, else-is_within}
use Rattle.motion_search.proofs.half.best_at_edge.Goals as goal

pub loop-n-init : goal.loop-n-init
loop-n-init c = none_yet c.args.block.now (picture c.args.reference) c.args.mb c.args.rounding c.args.best
    c.requires.candidate c.requires.cost

pub better_predicted-first-requires-clause-reach : goal.better_predicted-first-requires-clause-reach
better_predicted-first-requires-clause-reach c =
    (c.requires.reach c.neighbour-vector.result.x c.neighbour-vector.result.y).1
    (c.is_within.ensures.0 c.if-is_within.true)

pub loop-n-preserved : goal.loop-n-preserved
loop-n-preserved c =
    let block = c.args.block.now in
    let p = picture c.args.reference in
    let mb = c.args.mb in
    let r = c.args.rounding in
    let v = c.neighbour-vector.result in
    let now = c.loop-n.first in
    let next = c.if-is_within.first in
    let reach = c.requires.reach v.x v.y in
    let step : next ≡ step_of block p mb r v now = elim c.if-is_within.branch [
      | then-is_within w ↦ w.first-is ∙ w.better_predicted-first.ensures.first
          ∙ taken block p mb r v now (reach.1 (c.is_within.ensures.0 w.if-is_within.true))
      | else-is_within w ↦ w.first-is
          ∙ passed_over block p mb r v now (λ h. true≢false (sym (c.is_within.ensures.1 (reach.0 h))
          ∙ w.if-is_within.false))
    ] in
    let cost : IsCost next.cost = elim c.if-is_within.branch [
      | then-is_within w ↦ subst (λ (d : Candidate). IsCost d.cost)
          (sym w.first-is) w.better_predicted-first.ensures.cost
      | else-is_within w ↦ subst (λ (d : Candidate). IsCost d.cost) (sym w.first-is) c.loop-n.invariant.cost
    ] in
    one_more block p mb r c.args.best c.loop-n.n now next (omega arith) (step
    ∙ ap (λ (w : Vector). step_of block p mb r w now) c.neighbour-vector.ensures) cost c.loop-n.invariant

pub returns-clause-best : goal.returns-clause-best
returns-clause-best c = all_eight c.args.block.now (picture c.args.reference) c.args.mb c.args.rounding c.args.best
    c.loop-n.n c.loop-n.first (omega arith) c.requires.candidate c.loop-n.invariant
