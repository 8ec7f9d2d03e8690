use Rattle.std.proofs.Common.{◌≡◌, ◌+◌, ap, subst, ◌∙◌, ℕ, arith}
use Rattle.h263_planes.specs.Lent.{picture}
use Rattle.motion_search.specs.Cost.{differences_from}
use Rattle.motion_search.proofs.Blocks.{one_row_of, four_apart}
use Rattle.motion_search.proofs.lent.four_rows.Goals as goal

pub returns-clause-value : goal.returns-clause-value
returns-clause-value c =
    let p = picture c.args.reference in
    let block = c.args.block.now in
    let x = c.args.x in
    let y = c.from-y.result in
    let j = c.args.j in
    let d = differences_from block p x in
    subst (λ (k : ℕ). c.differences_of_four.result + (d k (j + 1) + d k (j + 5) + d k (j + 9) + d k (j + 13))
    ≡ d k j + d k (j + 4) + d k (j + 8) + d k (j + 12)) c.from-y.ensures
    (ap (λ (k : ℕ). k + (d y (j + 1) + d y (j + 5) + d y (j + 9) + d y (j + 13))) c.differences_of_four.ensures.value
    ∙ four_apart (d y) j _ _ _ _
    (one_row_of p block c.row-first.result.now x y j c.parts_add.ensures (omega arith) c.told-block
    c.row-first.ensures.length c.row-first.ensures.samples)
    (one_row_of p block c.row-second.result.now x y (j + 4) c.parts_add.ensures (omega arith) c.told-block
    c.row-second.ensures.length c.row-second.ensures.samples)
    (one_row_of p block c.row-third.result.now x y (j + 8) c.parts_add.ensures (omega arith) c.told-block
    c.row-third.ensures.length c.row-third.ensures.samples)
    (one_row_of p block c.row-fourth.result.now x y (j + 12) c.parts_add.ensures (omega arith) c.told-block
    c.row-fourth.ensures.length c.row-fourth.ensures.samples))
