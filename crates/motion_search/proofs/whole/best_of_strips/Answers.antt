-- No vector of the strips before the column is better than the one that is held.
use Rattle.std.proofs.Common.{◌≡◌, subst, arith, ℕ, ◌+◌, ◌-◌, ◌*◌, ◌<◌, false}
use Rattle.std.proofs.lemmas.Int.{ints}
use Rattle.h263_planes.specs.Lent.{picture}
use Rattle.motion_search.specs.Cost.{candidate_of}
use Rattle.motion_search.specs.Order.{before}
use Rattle.motion_search.specs.Vectors.{whole_at}
use Rattle.motion_search.specs.SoFar.{IsNoBetter}
use Rattle.motion_search.proofs.Reaches.{from_first, before_end, end_is, first_is}
use Rattle.motion_search.proofs.Strips.{seen_or_next}
use Rattle.motion_search.proofs.whole.best_of_strips.Goals as goal

pub loop-column-init : goal.loop-column-init
loop-column-init c =
    let w = c.args.window in
    record {
      left = ((first_is c.args.window.radius c.first_in-column.result _ _ c.across-across.ensures.least
          c.first_in-column.ensures) c.first_in-column.result).0 (omega arith);
      so_far = c.requires.so_far;
      none = λ m n hm hn to reached.
          let past = from_first (picture w.reference).format w.mb w.radius w.reach w.reaches m c.first_in-column.result
          n (first_is c.args.window.radius c.first_in-column.result _ _ c.across-across.ensures.least
          c.first_in-column.ensures) reached in
          absurd (omega (arith, to, past));
    }

pub best_of_strip-first-requires-clause-column : goal.best_of_strip-first-requires-clause-column
best_of_strip-first-requires-clause-column c = omega (
  arith,
  (((end_is c.args.window.radius c.end_in.result _ _ c.across-across.ensures.most c.end_in.ensures)
      c.loop-column.column).0 c.loop-column-test.true).0,
)

pub best_of_strip-first-requires-clause-across : goal.best_of_strip-first-requires-clause-across
best_of_strip-first-requires-clause-across c = (
  c.loop-column.invariant.left,
  (((end_is c.args.window.radius c.end_in.result _ _ c.across-across.ensures.most c.end_in.ensures)
      c.loop-column.column).0 c.loop-column-test.true).1,
)

pub loop-column-preserved : goal.loop-column-preserved
loop-column-preserved c =
    let w = c.args.window in
    let column = c.loop-column.column in
    let inv = c.loop-column.invariant in
    let next = c.best_of_strip-first in
    record {
      left = omega (arith, ints, inv.left);
      so_far = next.ensures.so_far;
      none = λ m n hm hn to reached.
          seen_or_next (n < column + 16
          → before (candidate_of w.block.now (picture w.reference) w.mb 0 (whole_at w.radius n m)) next.result
          ≡ false) n column
          (λ before_it _. next.ensures.kept (candidate_of w.block.now (picture w.reference) w.mb 0
          (whole_at w.radius n m)) (inv.none m n hm hn before_it reached))
          (λ from to.
          let place : column + (n - column) ≡ n = omega (arith, from) in
          subst (λ (k : ℕ). k < 2 * w.radius + 1 → IsNoBetter w k m next.result) place
          (λ hc. next.ensures.none m (n - column) hm (omega (arith, from, to)) hc) hn reached) to;
    }

pub loop-column-smaller : goal.loop-column-smaller
loop-column-smaller c = omega (
  arith,
  (((end_is c.args.window.radius c.end_in.result _ _ c.across-across.ensures.most c.end_in.ensures)
      c.loop-column.column).0 c.loop-column-test.true).0,
)

pub returns-clause-none : goal.returns-clause-none
returns-clause-none c = λ m n hm hn reached.
    let w = c.args.window in
    let ends = before_end (picture w.reference).format w.mb w.radius w.reach w.reaches m c.end_in.result n
    (end_is c.args.window.radius c.end_in.result _ _ c.across-across.ensures.most c.end_in.ensures) hn reached in
    c.loop-column.invariant.none m n hm hn (omega (arith, ends, c.loop-column-test.false)) reached
