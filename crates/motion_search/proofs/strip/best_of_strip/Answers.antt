-- No vector of the rows above the place is better than the one that is held.
use Rattle.std.proofs.Common.{◌≡◌, ap, ◌∙◌, sym, subst, false, arith, below_more, ℕ, ◌<◌, ◌≤◌, ◌+◌, ◌-◌, ◌*◌, pos}
use Rattle.std.specs.Int.{bit_at}
use Rattle.std.proofs.lemmas.Nat.Bits.{bit_at-zero}
use Rattle.h263_types.specs.declared.format.Format.{Format}
use Rattle.h263_types.specs.Sizes.{width_of}
use Rattle.h263_types.specs.Vectors.{whole_place}
use Rattle.h263_planes.specs.Lent.{picture}
use Rattle.motion_search.specs.Cost.{candidate_of}
use Rattle.motion_search.specs.Vectors.{whole_at, whole_component}
use Rattle.motion_search.specs.declared.candidate.Candidate.{Candidate}
use Rattle.motion_search.specs.declared.kept.KeptSums.{KeptSums}
use Rattle.motion_search.specs.declared.strip.Leader.{Leader}
use Rattle.motion_search.specs.declared.window.Window.{Window}
use Rattle.motion_search.specs.Order.{before}
use Rattle.motion_search.specs.SoFar.{HasLimit, HoldsAround, IsNoWorse, IsNoBetter, IsBestSoFar}
use Rattle.motion_search.proofs.Reaches.{IsInRows, between_rows, after_first_row, before_end_row, end_is, first_is, first_row_in, row_inside, row_ends, column_starts, column_ends, reached_column_ends}
use Rattle.motion_search.proofs.Held.{width_small}
use Rattle.motion_search.proofs.Strips.{next_place, place_adds, place_of_row, row_near, unmarked_not_before}
use Rattle.motion_search.proofs.strip.best_of_strip.Goals as goal
use Rattle.motion_search.proofs.strip.best_of_strip.Goals.{then-marks-ne0, else-marks-ne0}

-- the sums of the row to which a row of the square leads are kept, and those eight rows further down
held_row : (w : Window) (s : KeptSums) (row y : ℕ) → HoldsAround w s → IsInRows w.radius w.reach row
    → row ≤ 2 * w.radius → pos y ≡ whole_place w.top (whole_component w.radius row) →
    (s.first ≤ y) × (y + 8 < s.end)
held_row w s row y held down few place =
    let near = row_near w.top y w.radius row place few in
    held y near.0 near.1 (omega (
      arith,
      row_ends (picture w.reference).format w.mb w.radius w.reach w.reaches row w.top
          y w.inside w.at_top down place,
    ))

-- what a row of the square says of the row to which it leads
row_at : (w : Window) (s : KeptSums) (row : ℕ) → HoldsAround w s → IsInRows w.radius w.reach row → row ≤ 2 * w.radius →
    (pos (w.top + row - w.radius) ≡ whole_place w.top (whole_component w.radius row))
    × ((s.first ≤ w.top + row - w.radius) × (w.top + row - w.radius + 8 < s.end))
row_at w s row held down few =
    let place = place_of_row w.top w.radius row (row_inside (picture w.reference).format w.mb w.radius w.reach w.reaches
    row w.top w.inside w.at_top down) in
    (place, held_row w s row (w.top + row - w.radius) held down few place)

-- the sums that a row needs are among those that are kept
row_fits : (f : Format) (w : Window) (s : KeptSums) (row at x : ℕ) → s.end ≤ s.first + 39 → x + 15 < width_of f →
    at + 384 * (s.first + w.radius) ≡ 384 * (w.top + row) + x →
    (pos (w.top + row - w.radius) ≡ whole_place w.top (whole_component w.radius row))
    × ((s.first ≤ w.top + row - w.radius) × (w.top + row - w.radius + 8 < s.end)) →
    at + 3096 ≤ 14976
row_fits f w s row at x room across place is =
    omega (
      arith,
      room,
      across,
      place,
      is.1.0,
      is.1.1,
      place_adds w.top (w.top + row - w.radius) w.radius row is.0,
      width_small f,
    )

pub place-x-requires-clause-inside : goal.place-x-requires-clause-inside
place-x-requires-clause-inside c =
    let w = c.args.window in
    column_starts (picture w.reference).format w.mb w.radius w.reach w.reaches 0 w.left c.args.column w.inside w.at_left
    c.requires.across

pub loop-row-init : goal.loop-row-init
loop-row-init c =
    let w = c.args.window in
    let led = c.led_by-first.ensures in
    let from = first_row_in (picture w.reference).format w.mb w.radius c.first_in-first_row.result w.reach w.reaches
    w.inside (first_is c.args.window.radius c.first_in-first_row.result _ _ c.down-down.ensures.least
    c.first_in-first_row.ensures) in
    let top = c.place-top.result in
    let held = held_row w c.args.sums.now c.first_in-first_row.result top c.requires.held from.1
    (omega (arith, from.0)) c.place-top.ensures.place in
    record {
      place = omega (
        arith,
        held.0,
        place_adds w.top top w.radius c.first_in-first_row.result c.place-top.ensures.place,
      );
      so_far = subst (IsBestSoFar w) (sym led.best) c.requires.so_far;
      most = led.most;
      kept = λ d h. subst (λ (best : Candidate). before d best ≡ false) (sym led.best) h;
      none = λ m i hm hi hc reached.
          let past = after_first_row (picture w.reference).format w.mb w.radius w.reach w.reaches m
          c.first_in-first_row.result (c.args.column + i) (first_is c.args.window.radius c.first_in-first_row.result
          _ _ c.down-down.ensures.least c.first_in-first_row.ensures) reached in
          absurd (omega (arith, hm, past));
    }

pub place-top-requires-clause-k : goal.place-top-requires-clause-k
place-top-requires-clause-k c =
    let w = c.args.window in
    omega (
      arith,
      (first_row_in (picture w.reference).format w.mb w.radius c.first_in-first_row.result w.reach w.reaches
          w.inside (first_is c.args.window.radius c.first_in-first_row.result _ _ c.down-down.ensures.least
          c.first_in-first_row.ensures)).0,
    )

pub place-top-requires-clause-inside : goal.place-top-requires-clause-inside
place-top-requires-clause-inside c =
    let w = c.args.window in
    let f = (picture w.reference).format in
    row_inside f w.mb w.radius w.reach w.reaches c.first_in-first_row.result w.top w.inside w.at_top
    (first_row_in f w.mb w.radius c.first_in-first_row.result w.reach w.reaches w.inside
    (first_is c.args.window.radius c.first_in-first_row.result _ _ c.down-down.ensures.least
    c.first_in-first_row.ensures)).1

pub overflow_sub-at : goal.overflow_sub-at
overflow_sub-at c =
    let w = c.args.window in
    let from = first_row_in (picture w.reference).format w.mb w.radius c.first_in-first_row.result w.reach w.reaches
    w.inside (first_is c.args.window.radius c.first_in-first_row.result _ _ c.down-down.ensures.least
    c.first_in-first_row.ensures) in
    (held_row w c.args.sums.now c.first_in-first_row.result c.place-top.result c.requires.held from.1
    (omega (arith, from.0)) c.place-top.ensures.place).0

pub marks_in_row-marks-requires-clause-room : goal.marks_in_row-marks-requires-clause-room
marks_in_row-marks-requires-clause-room c =
    let w = c.args.window in
    let f = (picture w.reference).format in
    let row = c.loop-row.row in
    let down = between_rows f w.mb w.radius w.reach w.reaches row c.first_in-first_row.result c.end_in-row-end.result
    (first_is c.args.window.radius c.first_in-first_row.result _ _ c.down-down.ensures.least
    c.first_in-first_row.ensures) (end_is c.args.window.radius c.end_in-row-end.result _ _ c.down-down.ensures.most
    c.end_in-row-end.ensures) c.loop-row.auto.row c.loop-row-test.true in
    let is = row_at w c.args.sums.now row c.requires.held down
    (omega (
      arith,
      (((end_is c.args.window.radius c.end_in-row-end.result _ _ c.down-down.ensures.most
          c.end_in-row-end.ensures) row).0 c.loop-row-test.true).0,
    )) in
    row_fits f w c.args.sums.now row c.loop-row.at c.place-x.result c.requires.sums.room
    (column_ends f w.mb w.radius w.reach w.reaches 0 w.left c.place-x.result c.args.column w.inside w.at_left
    c.requires.across c.place-x.ensures.place) c.loop-row.invariant.place is

pub overflow_add-at-in-loop-row : goal.overflow_add-at-in-loop-row
overflow_add-at-in-loop-row c =
    let w = c.args.window in
    let f = (picture w.reference).format in
    let row = c.loop-row.row in
    let down = between_rows f w.mb w.radius w.reach w.reaches row c.first_in-first_row.result c.end_in-row-end.result
    (first_is c.args.window.radius c.first_in-first_row.result _ _ c.down-down.ensures.least
    c.first_in-first_row.ensures) (end_is c.args.window.radius c.end_in-row-end.result _ _ c.down-down.ensures.most
    c.end_in-row-end.ensures) c.loop-row.auto.row c.loop-row-test.true in
    let is = row_at w c.args.sums.now row c.requires.held down
    (omega (
      arith,
      (((end_is c.args.window.radius c.end_in-row-end.result _ _ c.down-down.ensures.most
          c.end_in-row-end.ensures) row).0 c.loop-row-test.true).0,
    )) in
    let fits = row_fits f w c.args.sums.now row c.loop-row.at c.place-x.result c.requires.sums.room
    (column_ends f w.mb w.radius w.reach w.reaches 0 w.left c.place-x.result c.args.column w.inside w.at_left
    c.requires.across c.place-x.ensures.place) c.loop-row.invariant.place is in
    omega (arith, fits)

pub best_of_marked-requires-clause-row : goal.best_of_marked-requires-clause-row
best_of_marked-requires-clause-row c = omega (
  arith,
  (((end_is c.args.window.radius c.end_in-row-end.result _ _ c.down-down.ensures.most c.end_in-row-end.ensures)
      c.loop-row.row).0 c.loop-row-test.true).0,
)

pub best_of_marked-requires-clause-down : goal.best_of_marked-requires-clause-down
best_of_marked-requires-clause-down c =
    let w = c.args.window in
    between_rows (picture w.reference).format w.mb w.radius w.reach w.reaches c.loop-row.row c.first_in-first_row.result
    c.end_in-row-end.result (first_is c.args.window.radius c.first_in-first_row.result _ _ c.down-down.ensures.least
    c.first_in-first_row.ensures) (end_is c.args.window.radius c.end_in-row-end.result _ _ c.down-down.ensures.most
    c.end_in-row-end.ensures) c.loop-row.auto.row c.loop-row-test.true

pub best_of_marked-requires-clause-others : goal.best_of_marked-requires-clause-others
best_of_marked-requires-clause-others c = λ i hi unmarked reached.
    let w = c.args.window in
    let p = picture w.reference in
    let x = c.place-x.result in
    let row = c.loop-row.row in
    let y = w.top + row - w.radius in
    let down = between_rows p.format w.mb w.radius w.reach w.reaches row c.first_in-first_row.result
    c.end_in-row-end.result (first_is c.args.window.radius c.first_in-first_row.result _ _ c.down-down.ensures.least
    c.first_in-first_row.ensures) (end_is c.args.window.radius c.end_in-row-end.result _ _ c.down-down.ensures.most
    c.end_in-row-end.ensures) c.loop-row.auto.row c.loop-row-test.true in
    let is = row_at w c.args.sums.now row c.requires.held down
    (omega (
      arith,
      (((end_is c.args.window.radius c.end_in-row-end.result _ _ c.down-down.ensures.most
          c.end_in-row-end.ensures) row).0 c.loop-row-test.true).0,
    )) in
    let ends = reached_column_ends p.format w.mb w.radius w.reach w.reaches row w.left (x + i)
    (c.args.column + i) w.at_left reached
    (next_place w.left x w.radius c.args.column i c.place-x.ensures.place) in
    unmarked_not_before w.block.now p w.mb w.radius w.left w.top x y c.args.column row i c.loop-row.first.most
    c.loop-row.first.best
    w.at_left w.at_top c.place-x.ensures.place is.0 c.loop-row.invariant.most.0
    (c.marks_in_row-marks.ensures x y c.loop-row.first.most i is.1.0 is.1.1 (omega (
      arith,
      c.loop-row.invariant.place,
      place_adds w.top y w.radius row is.0,
    )) c.loop-row.invariant.most.1 hi unmarked (omega (arith, ends)))
    c.loop-row.invariant.so_far.zero

pub loop-row-preserved : goal.loop-row-preserved
loop-row-preserved c =
    let w = c.args.window in
    let p = picture w.reference in
    let inv = c.loop-row.invariant in
    let row = c.loop-row.row in
    let y = w.top + row - w.radius in
    let down = between_rows p.format w.mb w.radius w.reach w.reaches row c.first_in-first_row.result
    c.end_in-row-end.result (first_is c.args.window.radius c.first_in-first_row.result _ _ c.down-down.ensures.least
    c.first_in-first_row.ensures) (end_is c.args.window.radius c.end_in-row-end.result _ _ c.down-down.ensures.most
    c.end_in-row-end.ensures) c.loop-row.auto.row c.loop-row-test.true in
    let is = row_at w c.args.sums.now row c.requires.held down
    (omega (
      arith,
      (((end_is c.args.window.radius c.end_in-row-end.result _ _ c.down-down.ensures.most
          c.end_in-row-end.ensures) row).0 c.loop-row-test.true).0,
    )) in
    let now = c.loop-row.first.best in
    let next : Leader = c.if-marks-ne0.first in
    let NoneAt = λ (best : Candidate). (i : ℕ) → i < 16 → c.args.column + i < 2 * w.radius + 1
    → IsNoBetter w (c.args.column + i) row best in
    let Step = λ (l : Leader). IsBestSoFar w l.best × HasLimit l × IsNoWorse now l.best × NoneAt l.best in
    let step : Step next = elim c.if-marks-ne0.branch [
      | then-marks-ne0 t ↦
          let looked = t.best_of_marked.ensures in
          let led = t.led_by-first-then-marks-ne0.ensures in
          subst Step (sym t.first-is) (
            subst (IsBestSoFar w) (sym led.best) looked.so_far,
            led.most,
            subst (IsNoWorse now) (sym led.best) looked.kept,
            subst NoneAt (sym led.best) looked.none,
          )
      | else-marks-ne0 t ↦
          let none : c.marks_in_row-marks.result ≡ 0 = omega (arith, t.if-marks-ne0.false) in
          subst Step (sym t.first-is) (
            inv.so_far,
            inv.most,
            λ d h. h,
            λ i hi hc reached.
                let x = c.place-x.result in
                let ends = reached_column_ends p.format w.mb w.radius w.reach w.reaches row w.left (x + i)
                (c.args.column + i) w.at_left reached
                (next_place w.left x w.radius c.args.column i c.place-x.ensures.place) in
                unmarked_not_before w.block.now p w.mb w.radius w.left w.top x y c.args.column row i
                c.loop-row.first.most now
                w.at_left w.at_top c.place-x.ensures.place is.0 inv.most.0
                (c.marks_in_row-marks.ensures x y c.loop-row.first.most i is.1.0 is.1.1 (omega (
                  arith,
                  inv.place,
                  place_adds w.top y w.radius row is.0,
                )) inv.most.1 hi (ap (λ (n : ℕ). bit_at n i) none
                ∙ bit_at-zero i) (omega (arith, ends)))
                inv.so_far.zero,
          )
    ] in
    record {
      place = omega (arith, inv.place);
      so_far = step.0;
      most = step.1;
      kept = λ d h. step.2 d (inv.kept d h);
      none = λ m i hm.
          below_more (λ m. i < 16 → c.args.column + i < 2 * w.radius + 1
          → IsNoBetter w (c.args.column + i) m next.best) row
          (λ m hm hi hc reached. step.2 (candidate_of w.block.now p w.mb 0 (whole_at w.radius (c.args.column + i) m))
          (inv.none m i hm hi hc reached))
          (λ hi hc. step.3 i hi hc) m hm;
    }

pub returns-clause-none : goal.returns-clause-none
returns-clause-none c = λ m i hm hi hc reached.
    let w = c.args.window in
    let ends = before_end_row (picture w.reference).format w.mb w.radius w.reach w.reaches m c.end_in-row-end.result
    (c.args.column + i) (end_is c.args.window.radius c.end_in-row-end.result _ _ c.down-down.ensures.most
    c.end_in-row-end.ensures) hm reached in
    c.loop-row.invariant.none m i (omega (arith, ends, c.loop-row-test.false)) hi hc reached
