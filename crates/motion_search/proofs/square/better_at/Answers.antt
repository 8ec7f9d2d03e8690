use Rattle.std.proofs.Common.{subst, ◌∙◌, sym, true≢false}
use Rattle.h263_types.specs.declared.vector.Vector.{Vector}
use Rattle.h263_types.specs.Vectors.{IsWithin}
use Rattle.h263_planes.specs.Lent.{picture}
use Rattle.motion_search.specs.Vectors.{whole_at, whole_component, IsEven}
use Rattle.motion_search.proofs.Squares.{at_is_even}
use Rattle.motion_search.proofs.Reaches.{row_inside, column_inside}
use Rattle.motion_search.proofs.Bests.{passed_over, whole_step}
use Rattle.motion_search.proofs.square.better_at.Goals as goal

pub place-x-requires-clause-inside : goal.place-x-requires-clause-inside
place-x-requires-clause-inside c =
    let is = subst (λ (v : Vector). IsWithin c.args.window.reach v.x v.y) c.whole_vector-vector.ensures
    (c.is_within.ensures.0 c.if-is_within.true) in
    column_inside (picture c.args.window.reference).format c.args.window.mb c.args.window.radius c.args.window.reach
    c.args.window.reaches c.args.row c.args.window.left c.args.column c.args.window.at_left
    ((c.args.window.reaches (whole_component c.args.window.radius c.args.column)
    (whole_component c.args.window.radius c.args.row)).1 is)

pub place-y-requires-clause-inside : goal.place-y-requires-clause-inside
place-y-requires-clause-inside c =
    let is = subst (λ (v : Vector). IsWithin c.args.window.reach v.x v.y) c.whole_vector-vector.ensures
    (c.is_within.ensures.0 c.if-is_within.true) in
    row_inside (picture c.args.window.reference).format c.args.window.mb c.args.window.radius c.args.window.reach
    c.args.window.reaches c.args.row c.args.window.top c.args.window.inside c.args.window.at_top is.1

pub better_whole-requires-clause-reach : goal.better_whole-requires-clause-reach
better_whole-requires-clause-reach c =
    (c.args.window.reaches c.whole_vector-vector.result.x c.whole_vector-vector.result.y).1
    (c.is_within.ensures.0 c.if-is_within.true)

pub better_whole-requires-clause-whole : goal.better_whole-requires-clause-whole
better_whole-requires-clause-whole c = subst IsEven (sym c.whole_vector-vector.ensures)
    (at_is_even c.args.window.radius c.args.column c.args.row)

pub returns-then-is_within-clause-first : goal.returns-then-is_within-clause-first
returns-then-is_within-clause-first c =
    let block = c.args.window.block.now in
    let p = picture c.args.window.reference in
    let v = whole_at c.args.window.radius c.args.column c.args.row in
    let is = subst (λ (v : Vector). IsWithin c.args.window.reach v.x v.y) c.whole_vector-vector.ensures
    (c.is_within.ensures.0 c.if-is_within.true) in
    whole_step block p c.args.window.mb 0 c.whole_vector-vector.result v c.args.best c.better_whole.result
    ((c.args.window.reaches v.x v.y).1 is) c.whole_vector-vector.ensures c.better_whole.ensures.first

pub returns-else-is_within-clause-first : goal.returns-else-is_within-clause-first
returns-else-is_within-clause-first c =
    let v = whole_at c.args.window.radius c.args.column c.args.row in
    passed_over c.args.window.block.now (picture c.args.window.reference) c.args.window.mb 0 v c.args.best
    (λ h. true≢false (sym (c.is_within.ensures.1 (subst (λ (v : Vector). IsWithin c.args.window.reach v.x v.y)
    (sym c.whole_vector-vector.ensures) ((c.args.window.reaches v.x v.y).0 h))) ∙ c.if-is_within.false))
