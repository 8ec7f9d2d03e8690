use Rattle.std.proofs.Common.{refl, arith}
use Rattle.h263_planes.specs.Lent.{picture}
use Rattle.motion_search.proofs.Blocks.{costing}
use Rattle.motion_search.proofs.Nears.{none_yet, one_more, all_eight, by_differences, eighth}
use Rattle.motion_search.proofs.half.best_inside.Goals as goal

pub loop-n-init : goal.loop-n-init
loop-n-init c = none_yet c.args.block.now (picture c.args.reference) c.args.mb c.args.rounding c.args.best
    c.requires.candidate c.requires.cost

pub loop-n-preserved : goal.loop-n-preserved
loop-n-preserved c =
    let block = c.args.block.now in
    let p = picture c.args.reference in
    let mb = c.args.mb in
    let r = c.args.rounding in
    let n = c.loop-n.n in
    let now = c.loop-n.so_far in
    let v = eighth c.args.best.vector n in
    let next = c.better_neighbour-so_far.result in
    one_more block p mb r c.args.best n now next (omega arith)
    (by_differences block p mb r c.args.best n _ v now (costing v _) next c.better_neighbour-so_far.ensures.first refl
    refl (c.differences_around-sums.ensures.value n (omega arith)) (c.requires.inside _ (omega arith)))
    c.better_neighbour-so_far.ensures.cost
    c.loop-n.invariant

pub returns-clause-best : goal.returns-clause-best
returns-clause-best c = all_eight c.args.block.now (picture c.args.reference) c.args.mb c.args.rounding c.args.best
    c.loop-n.n c.loop-n.so_far (omega arith) c.requires.candidate c.loop-n.invariant

pub returns-clause-cost : goal.returns-clause-cost
returns-clause-cost c = c.loop-n.invariant.cost
