use Rattle.std.proofs.Common.{◌∙◌, ap, arith, lit≤, lit<, unsigned_abs, pos, get_or}
use Rattle.idct8.specs.Vectors.{row_at, squared}
use Rattle.idct8.proofs.Squares.{by_columns, column_squares, sample_row, up_by}
use Rattle.idct8.proofs.Vectors.{passed_lane, passed_within}
use Rattle.idct8.proofs.small.sum_of_squares.Goals as goal

pub squares_down-requires : goal.squares_down-requires
squares_down-requires c j hj = sample_row c.args.samples.now (row_at c.rows.result j) j (omega arith) hj c.requires
    (c.rows.ensures.size j hj).long (λ i hi. c.rows.ensures.numbers j i hj hi)

pub sum_of_lanes-requires-clause-up : goal.sum_of_lanes-requires-clause-up
sum_of_lanes-requires-clause-up c i hi = up_by (passed_lane 520200 i (lit≤ tt) c.squares_down.ensures.size)
    (c.squares_down.ensures.value i hi)

pub sum_of_lanes-requires-clause-size : goal.sum_of_lanes-requires-clause-size
sum_of_lanes-requires-clause-size c = passed_within 520200 520200 (lit≤ tt) (lit≤ tt) c.squares_down.ensures.size

pub returns-clause-sum : goal.returns-clause-sum
returns-clause-sum c =
    by_columns (λ k. squared (get_or c.args.samples.now k (pos 0))) c.sum_of_lanes.ensures.sum
    (ap unsigned_abs (passed_lane 520200 0 (lit≤ tt) c.squares_down.ensures.size)
    ∙ column_squares c.args.samples.now c.rows.result c.squares_down.result 0 (lit< tt) c.rows.ensures.numbers
    (c.squares_down.ensures.value 0 (lit< tt)))
    (ap unsigned_abs (passed_lane 520200 1 (lit≤ tt) c.squares_down.ensures.size)
    ∙ column_squares c.args.samples.now c.rows.result c.squares_down.result 1 (lit< tt) c.rows.ensures.numbers
    (c.squares_down.ensures.value 1 (lit< tt)))
    (ap unsigned_abs (passed_lane 520200 2 (lit≤ tt) c.squares_down.ensures.size)
    ∙ column_squares c.args.samples.now c.rows.result c.squares_down.result 2 (lit< tt) c.rows.ensures.numbers
    (c.squares_down.ensures.value 2 (lit< tt)))
    (ap unsigned_abs (passed_lane 520200 3 (lit≤ tt) c.squares_down.ensures.size)
    ∙ column_squares c.args.samples.now c.rows.result c.squares_down.result 3 (lit< tt) c.rows.ensures.numbers
    (c.squares_down.ensures.value 3 (lit< tt)))
    (ap unsigned_abs (passed_lane 520200 4 (lit≤ tt) c.squares_down.ensures.size)
    ∙ column_squares c.args.samples.now c.rows.result c.squares_down.result 4 (lit< tt) c.rows.ensures.numbers
    (c.squares_down.ensures.value 4 (lit< tt)))
    (ap unsigned_abs (passed_lane 520200 5 (lit≤ tt) c.squares_down.ensures.size)
    ∙ column_squares c.args.samples.now c.rows.result c.squares_down.result 5 (lit< tt) c.rows.ensures.numbers
    (c.squares_down.ensures.value 5 (lit< tt)))
    (ap unsigned_abs (passed_lane 520200 6 (lit≤ tt) c.squares_down.ensures.size)
    ∙ column_squares c.args.samples.now c.rows.result c.squares_down.result 6 (lit< tt) c.rows.ensures.numbers
    (c.squares_down.ensures.value 6 (lit< tt)))
    (ap unsigned_abs (passed_lane 520200 7 (lit≤ tt) c.squares_down.ensures.size)
    ∙ column_squares c.args.samples.now c.rows.result c.squares_down.result 7 (lit< tt) c.rows.ensures.numbers
    (c.squares_down.ensures.value 7 (lit< tt)))
