-- The areas of the rows before the place have their sums, with those of the columns beside them.
use Rattle.std.proofs.Common.{◌≡◌, refl, ap, subst, ◌∙◌, arith, below_more, ℕ, ◌+◌, ◌-◌, ◌*◌, ◌≤◌, inl, get_or}
use Rattle.h263_planes.specs.Lent.{picture}
use Rattle.motion_search.specs.Areas.{area_sum, AreSamplesAt, AreColumns, IsBeside}
use Rattle.motion_search.proofs.Held.{lent_rows_beside, place_of_row, some_small, row_apart}
use Rattle.motion_search.proofs.kept.add_strip.Goals as goal

pub loop-k-init : goal.loop-k-init
loop-k-init c =
    record {
      low = omega arith;
      few = omega (arith, c.requires.rows.order);
      place = omega arith;
      rest = record { whole = c.requires.whole; above = λ k hk. refl; small = λ h. h };
      columns = c.seven_rows-columns.ensures;
      stored = λ f bytes beside k i from to hi. absurd (omega (arith, from, to));
      before = λ k n hn. refl;
    }

pub rows-left-requires-clause-inside : goal.rows-left-requires-clause-inside
rows-left-requires-clause-inside c = record {
  in_row = c.requires.across.1;
  in_plane = omega (arith, c.requires.rows.down, c.requires.rows.order);
}

pub rows-right-requires-clause-inside : goal.rows-right-requires-clause-inside
rows-right-requires-clause-inside c = record {
  in_row = c.requires.across.2;
  in_plane = omega (arith, c.requires.rows.down, c.requires.rows.order);
}

pub seven_rows-columns-requires-clause-left : goal.seven_rows-columns-requires-clause-left
seven_rows-columns-requires-clause-left c = record {
  in_row = c.requires.across.1;
  in_plane = omega (arith, c.requires.rows.down, c.requires.rows.order);
}

pub seven_rows-columns-requires-clause-right : goal.seven_rows-columns-requires-clause-right
seven_rows-columns-requires-clause-right c = record {
  in_row = c.requires.across.2;
  in_plane = omega (arith, c.requires.rows.down, c.requires.rows.order);
}

pub seven_rows-columns-requires-clause-y : goal.seven_rows-columns-requires-clause-y
seven_rows-columns-requires-clause-y c = omega (arith, c.requires.rows.low, c.requires.rows.order, c.requires.rows.room)

pub put_areas-requires-clause-room : goal.put_areas-requires-clause-room
put_areas-requires-clause-room c = omega (
  arith,
  c.loop-k.invariant.rest.whole,
  c.loop-k-test.true,
  c.requires.rows.room,
  c.requires.across.0,
)

pub put_areas-requires-clause-columns : goal.put_areas-requires-clause-columns
put_areas-requires-clause-columns c =
    let some = c.requires.beside in
    let b = c.args.rows.begin in
    let k = c.loop-k.k in
    let inv = c.loop-k.invariant in
    let w = c.width-width.result in
    let at : c.loop-k.at ≡ w * (k - b) = place_of_row w b k c.loop-k.at inv.low inv.place in
    let below : c.loop-k.at + 7 * w ≡ w * (k - b + 7) = omega (arith, at) in
    record {
      samples = some.samples;
      row = c.args.rows.first + k;
      bytes = some.bytes;
      sums = c.with_row-full.ensures some.samples (c.args.rows.first + k) 7 some.bytes (omega arith)
          (lent_rows_beside (picture c.args.reference) c.args.x c.args.z (c.args.rows.first + b) _ _ _ (k - b + 7)
          _ some.samples
          c.rows-left.result.now c.rows-right.result.now c.row_from.result.now c.row_from-in-loop-k.result.now
          some.beside
          (omega (arith, c.loop-k-test.true, inv.low)) (below ∙ ap (λ (n : ℕ). n * (k - b + 7)) c.width-width.ensures)
          (omega (arith, inv.low)) c.rows-left.ensures.samples c.rows-right.ensures.samples c.row_from.ensures.samples
          c.row_from-in-loop-k.ensures.samples)
          (inv.columns some.samples some.bytes some.beside);
    }

pub loop-k-preserved : goal.loop-k-preserved
loop-k-preserved c =
    let p = picture c.args.reference in
    let x = c.args.x in
    let k = c.loop-k.k in
    let row = c.args.rows.first + k in
    let inv = c.loop-k.invariant in
    let put = c.put_areas.ensures in
    let some = c.requires.beside in
    let b = c.args.rows.begin in
    let w = c.width-width.result in
    let at : c.loop-k.at ≡ w * (k - b) = place_of_row w b k c.loop-k.at inv.low inv.place in
    let below : c.loop-k.at + 7 * w ≡ w * (k - b + 7) = omega (arith, at) in
    let eight : (f : ℕ → ℕ → ℕ) → AreSamplesAt f → IsBeside p x c.args.z f
    → AreColumns f row 8 c.with_row-full.result = λ f bytes beside.
    c.with_row-full.ensures f row 7 bytes (omega arith)
    (lent_rows_beside p x c.args.z (c.args.rows.first + b) _ _ _ (k - b + 7) _ f
    c.rows-left.result.now c.rows-right.result.now c.row_from.result.now c.row_from-in-loop-k.result.now beside
    (omega (arith, c.loop-k-test.true, inv.low)) (below ∙ ap (λ (n : ℕ). n * (k - b + 7)) c.width-width.ensures)
    (omega (arith, inv.low)) c.rows-left.ensures.samples c.rows-right.ensures.samples c.row_from.ensures.samples
    c.row_from-in-loop-k.ensures.samples)
    (inv.columns f bytes beside) in
    let seven : (f : ℕ → ℕ → ℕ) → AreSamplesAt f → IsBeside p x c.args.z f
    → AreColumns f (row + 1) 7 c.without_row-columns.result = λ f bytes beside.
    c.without_row-columns.ensures f row 7 bytes (omega arith)
    (lent_rows_beside p x c.args.z (c.args.rows.first + b) _ _ _ (k - b) _ f
    c.rows-left.result.now c.rows-right.result.now c.row_from-in-loop-k-2.result.now c.row_from-in-loop-k-3.result.now
    beside
    (omega (arith, c.loop-k-test.true, inv.low)) (at ∙ ap (λ (n : ℕ). n * (k - b)) c.width-width.ensures)
    (omega (arith, inv.low)) c.rows-left.ensures.samples c.rows-right.ensures.samples
    c.row_from-in-loop-k-2.ensures.samples
    c.row_from-in-loop-k-3.ensures.samples)
    (eight f bytes beside) in
    record {
      low = omega (arith, inv.low);
      few = omega (arith, c.loop-k-test.true);
      place = omega (arith, inv.place);
      rest = record {
        whole = put.length ∙ inv.rest.whole;
        above = λ n hn. put.others n (inl (omega (arith, hn, inv.low))) ∙ inv.rest.above n hn;
        small = λ h. some_small some.samples row c.loop-k.out c.put_areas.new.out (384 * k + x) some.bytes put.others
            (λ i hi. put.stored some.samples row i some.bytes (eight some.samples some.bytes some.beside) hi)
            (inv.rest.small h);
      };
      columns = λ f bytes beside.
          let next : row + 1 ≡ c.args.rows.first + (k + 1) = omega arith in
          subst (λ (n : ℕ). AreColumns f n 7 c.without_row-columns.result) next (seven f bytes beside);
      stored = λ f bytes beside n i from to hi.
          below_more (λ n. c.args.rows.begin ≤ n → get_or c.put_areas.new.out (384 * n + (x + i)) 0
          ≡ area_sum f i (c.args.rows.first + n)) k
          (λ n hn from. put.others (384 * n + (x + i)) (inl (omega (arith, hn, hi, c.requires.across.0)))
          ∙ inv.stored f bytes beside n i from hn hi)
          (λ from.
          let place : 384 * k + (x + i) ≡ 384 * k + x + i = omega arith in
          ap (λ (m : ℕ). get_or c.put_areas.new.out m 0) place
          ∙ put.stored f row i bytes (eight f bytes beside) hi) n to from;
      before = λ n col hc. put.others (384 * n + col) (row_apart x k n col hc c.requires.across.0)
          ∙ inv.before n col hc;
    }

pub returns-clause-stored : goal.returns-clause-stored
returns-clause-stored c = λ f bytes beside k i from to hi. c.loop-k.invariant.stored f bytes beside k i from
    (omega (arith, to, c.loop-k.invariant.few, c.loop-k-test.false)) hi
