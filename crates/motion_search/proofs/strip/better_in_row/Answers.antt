-- A column is looked at where it is in the square, and else nothing is lost.
use Rattle.std.proofs.Common.{◌≡◌, sym, subst, arith, false}
use Rattle.h263_types.specs.declared.vector.Vector.{Vector}
use Rattle.h263_types.specs.Vectors.{InReach}
use Rattle.h263_planes.specs.Lent.{picture}
use Rattle.motion_search.specs.declared.candidate.Candidate.{Candidate}
use Rattle.motion_search.specs.Order.{before}
use Rattle.motion_search.specs.Cost.{candidate_of}
use Rattle.motion_search.specs.Vectors.{whole_at, whole_component, zero_vector, IsEven}
use Rattle.motion_search.specs.Best.{IsWholeCandidate}
use Rattle.motion_search.proofs.Squares.{at_is_even, at_is_whole}
use Rattle.motion_search.proofs.Reaches.{before_end, column_inside, end_is, row_inside}
use Rattle.motion_search.proofs.Bests.{step_is_whole, step_kept, step_none, whole_step}
use Rattle.motion_search.proofs.strip.better_in_row.Goals as goal

pub whole_vector-vector-requires-clause-column : goal.whole_vector-vector-requires-clause-column
whole_vector-vector-requires-clause-column c = omega (
  arith,
  (((end_is c.args.window.radius c.end_in-end.result _ _ c.across-across.ensures.most c.end_in-end.ensures)
      c.args.column).0 c.if-column-end.true).0,
)

pub place-x-requires-clause-k : goal.place-x-requires-clause-k
place-x-requires-clause-k c = omega (
  arith,
  (((end_is c.args.window.radius c.end_in-end.result _ _ c.across-across.ensures.most c.end_in-end.ensures)
      c.args.column).0 c.if-column-end.true).0,
)

pub place-x-requires-clause-inside : goal.place-x-requires-clause-inside
place-x-requires-clause-inside c =
    let w = c.args.window in
    let is = (w.reaches (whole_component w.radius c.args.column) (whole_component w.radius c.args.row)).1 (
      (
        c.requires.left,
        (((end_is c.args.window.radius c.end_in-end.result _ _ c.across-across.ensures.most
            c.end_in-end.ensures) c.args.column).0 c.if-column-end.true).1,
      ),
      c.requires.down,
    ) in
    column_inside (picture w.reference).format w.mb w.radius w.reach w.reaches c.args.row w.left c.args.column w.at_left
    is

pub place-y-requires-clause-inside : goal.place-y-requires-clause-inside
place-y-requires-clause-inside c =
    let w = c.args.window in
    row_inside (picture w.reference).format w.mb w.radius w.reach w.reaches c.args.row w.top w.inside w.at_top
    c.requires.down

pub better_whole-requires-clause-reach : goal.better_whole-requires-clause-reach
better_whole-requires-clause-reach c =
    let w = c.args.window in
    let is = (w.reaches (whole_component w.radius c.args.column) (whole_component w.radius c.args.row)).1 (
      (
        c.requires.left,
        (((end_is c.args.window.radius c.end_in-end.result _ _ c.across-across.ensures.most
            c.end_in-end.ensures) c.args.column).0 c.if-column-end.true).1,
      ),
      c.requires.down,
    ) in
    subst (λ (v : Vector). InReach (picture w.reference).format w.mb v.x v.y) (sym c.whole_vector-vector.ensures) is

pub better_whole-requires-clause-whole : goal.better_whole-requires-clause-whole
better_whole-requires-clause-whole c = subst IsEven (sym c.whole_vector-vector.ensures)
    (at_is_even c.args.window.radius c.args.column c.args.row)

pub returns-then-column-end-clause-kept : goal.returns-then-column-end-clause-kept
returns-then-column-end-clause-kept c = λ d h.
    let w = c.args.window in
    let p = picture w.reference in
    let v = whole_at w.radius c.args.column c.args.row in
    let is = (w.reaches v.x v.y).1 (
      (
        c.requires.left,
        (((end_is c.args.window.radius c.end_in-end.result _ _ c.across-across.ensures.most
            c.end_in-end.ensures) c.args.column).0 c.if-column-end.true).1,
      ),
      c.requires.down,
    ) in
    let step = whole_step w.block.now p w.mb 0 c.whole_vector-vector.result v c.args.best c.better_whole.result is
    c.whole_vector-vector.ensures c.better_whole.ensures.first in
    subst (λ (b : Candidate). before d b ≡ false) (sym step) (step_kept w.block.now p w.mb 0 d v c.args.best h)

pub returns-then-column-end-clause-so_far : goal.returns-then-column-end-clause-so_far
returns-then-column-end-clause-so_far c =
    let w = c.args.window in
    let p = picture w.reference in
    let v = whole_at w.radius c.args.column c.args.row in
    let across = ((end_is c.args.window.radius c.end_in-end.result _ _ c.across-across.ensures.most
    c.end_in-end.ensures) c.args.column).0 c.if-column-end.true in
    let is = (w.reaches v.x v.y).1 ((c.requires.left, across.1), c.requires.down) in
    let step = whole_step w.block.now p w.mb 0 c.whole_vector-vector.result v c.args.best c.better_whole.result is
    c.whole_vector-vector.ensures c.better_whole.ensures.first in
    record {
      zero = returns-then-column-end-clause-kept c (candidate_of w.block.now p w.mb 0 zero_vector)
          c.requires.so_far.zero;
      candidate = subst (IsWholeCandidate w.block.now p w.mb w.radius 0) (sym step)
          (step_is_whole w.block.now p w.mb 0 w.radius v c.args.best
          (at_is_whole w.radius c.args.column c.args.row (omega (arith, across.0)) (omega (arith, c.requires.row)))
          c.requires.so_far.candidate);
      cost = c.better_whole.ensures.cost;
    }

pub returns-then-column-end-clause-none : goal.returns-then-column-end-clause-none
returns-then-column-end-clause-none c = λ hc reached.
    let w = c.args.window in
    let p = picture w.reference in
    let v = whole_at w.radius c.args.column c.args.row in
    let step = whole_step w.block.now p w.mb 0 c.whole_vector-vector.result v c.args.best c.better_whole.result reached
    c.whole_vector-vector.ensures c.better_whole.ensures.first in
    subst (λ (b : Candidate). before (candidate_of w.block.now p w.mb 0 v) b ≡ false) (sym step)
    (step_none w.block.now p w.mb 0 v c.args.best reached)

pub returns-else-column-end-clause-kept : goal.returns-else-column-end-clause-kept
returns-else-column-end-clause-kept c = λ d h. h

pub returns-else-column-end-clause-none : goal.returns-else-column-end-clause-none
returns-else-column-end-clause-none c = λ hc reached.
    let w = c.args.window in
    let before_it = before_end (picture w.reference).format w.mb w.radius w.reach w.reaches c.args.row
    c.end_in-end.result c.args.column (end_is c.args.window.radius c.end_in-end.result _
    _ c.across-across.ensures.most c.end_in-end.ensures) hc reached in
    absurd (omega (arith, before_it, c.if-column-end.false))
