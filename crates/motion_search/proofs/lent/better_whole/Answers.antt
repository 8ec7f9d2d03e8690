use Rattle.std.proofs.Common.{◌≡◌, ◌∙◌, ap, sym, subst, arith, Bool, cond, false, pos, ◌<ℤ◌}
use Rattle.std.proofs.lemmas.Int.{ints}
use Rattle.h263_types.specs.declared.vector.Vector.{Vector}
use Rattle.h263_planes.specs.Lent.{picture}
use Rattle.motion_search.specs.declared.candidate.Candidate.{Candidate}
use Rattle.motion_search.specs.Order.{before, earlier_of}
use Rattle.motion_search.specs.Cost.{candidate_of, difference_of, IsCost}
use Rattle.motion_search.proofs.Blocks.{all_rows, costing}
use Rattle.motion_search.proofs.Leads.{not_before_by_differences}
use Rattle.motion_search.proofs.Orders.{first_has}
use Rattle.motion_search.proofs.Places.{whole_predicts}
use Rattle.motion_search.proofs.lent.better_whole.Goals as goal

-- the sum is too high even for the zero vector, which has been looked at
pub returns-then-sum-best-clause-first : goal.returns-then-sum-best-clause-first
returns-then-sum-best-clause-first c =
    let block = c.args.window.block.now in
    let reference = picture c.args.window.reference in
    let mb = c.args.window.mb in
    let v = c.args.vector in
    let best = c.args.best in
    let sum = c.differences_at-sum.result in
    let value : sum ≡ difference_of block reference mb 0 v =
    c.differences_at-sum.ensures.value ∙ all_rows block reference c.args.x c.args.y
    ∙ whole_predicts block reference mb 0 c.args.x c.args.y v c.requires.whole c.requires.x c.requires.y in
    let more : best.cost <ℤ pos sum = omega (arith, ints, c.if-sum-best.true, c.differences_at-sum.ensures.most) in
    let later = not_before_by_differences v sum best more
    (λ e. subst (λ k. before (costing v k) best ≡ false) (sym value)
    (subst (λ (w : Vector). before (candidate_of block reference mb 0 w) best ≡ false) (sym e) c.requires.zero)) in
    sym (ap (λ (b : Bool). cond b (costing v (difference_of block reference mb 0 v)) best)
    (subst (λ k. before (costing v k) best ≡ false) value later))

pub returns-else-sum-best-clause-first : goal.returns-else-sum-best-clause-first
returns-else-sum-best-clause-first c =
    let block = c.args.window.block.now in
    let reference = picture c.args.window.reference in
    let v = c.args.vector in
    c.first.ensures
    ∙ ap (earlier_of c.args.best)
    (c.with_differences.ensures.candidate
    ∙ ap (costing v)
    (c.differences_at-sum.ensures.value
    ∙ all_rows block reference c.args.x c.args.y
    ∙ whole_predicts block reference c.args.window.mb 0 c.args.x c.args.y v c.requires.whole c.requires.x c.requires.y))

pub returns-else-sum-best-clause-cost : goal.returns-else-sum-best-clause-cost
returns-else-sum-best-clause-cost c =
    subst (λ (d : Candidate). IsCost d.cost) (sym c.first.ensures)
    (first_has (λ (d : Candidate). IsCost d.cost) c.args.best c.with_differences.result c.requires.cost
    c.with_differences.ensures.cost)
