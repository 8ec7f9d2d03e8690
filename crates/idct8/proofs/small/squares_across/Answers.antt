-- No square or sum of squares overflows, and their total is that of the columns.
use Rattle.std.proofs.Common.{◌∙◌, lit≤, lit<}
use Rattle.idct8.proofs.Rotations.{sum_of, difference_of}
use Rattle.idct8.proofs.Squares.{same_squares}
use Rattle.idct8.proofs.Vectors.{passed_lane, passed_lane16, passed_within, passed_within16}
use Rattle.idct8.proofs.small.squares_across.Goals as goal

pub pair-requires-clause-a : goal.pair-requires-clause-a
pair-requires-clause-a c = passed_within16 8191 8191 (lit≤ tt) (lit≤ tt) (c.requires 0 (lit< tt))

pub pair-requires-clause-b : goal.pair-requires-clause-b
pair-requires-clause-b c = passed_within16 8191 8191 (lit≤ tt) (lit≤ tt) (c.requires 7 (lit< tt))

pub pair-requires-2-clause-a : goal.pair-requires-2-clause-a
pair-requires-2-clause-a c = passed_within16 8191 8191 (lit≤ tt) (lit≤ tt) (c.requires 1 (lit< tt))

pub pair-requires-2-clause-b : goal.pair-requires-2-clause-b
pair-requires-2-clause-b c = passed_within16 8191 8191 (lit≤ tt) (lit≤ tt) (c.requires 6 (lit< tt))

pub pair-requires-3-clause-a : goal.pair-requires-3-clause-a
pair-requires-3-clause-a c = passed_within16 8191 8191 (lit≤ tt) (lit≤ tt) (c.requires 2 (lit< tt))

pub pair-requires-3-clause-b : goal.pair-requires-3-clause-b
pair-requires-3-clause-b c = passed_within16 8191 8191 (lit≤ tt) (lit≤ tt) (c.requires 5 (lit< tt))

pub pair-requires-4-clause-a : goal.pair-requires-4-clause-a
pair-requires-4-clause-a c = passed_within16 8191 8191 (lit≤ tt) (lit≤ tt) (c.requires 3 (lit< tt))

pub pair-requires-4-clause-b : goal.pair-requires-4-clause-b
pair-requires-4-clause-b c = passed_within16 8191 8191 (lit≤ tt) (lit≤ tt) (c.requires 4 (lit< tt))

pub squares_of_four-requires-clause-a : goal.squares_of_four-requires-clause-a
squares_of_four-requires-clause-a c = passed_within16 16382 16382 (lit≤ tt) (lit≤ tt) c.pair.ensures.sum_size

pub squares_of_four-requires-clause-b : goal.squares_of_four-requires-clause-b
squares_of_four-requires-clause-b c = passed_within16 16382 16382 (lit≤ tt) (lit≤ tt) c.pair-2.ensures.sum_size

pub squares_of_four-requires-clause-c : goal.squares_of_four-requires-clause-c
squares_of_four-requires-clause-c c = passed_within16 16382 16382 (lit≤ tt) (lit≤ tt) c.pair-3.ensures.sum_size

pub squares_of_four-requires-clause-d : goal.squares_of_four-requires-clause-d
squares_of_four-requires-clause-d c = passed_within16 16382 16382 (lit≤ tt) (lit≤ tt) c.pair-4.ensures.sum_size

pub squares_of_four-requires-2-clause-a : goal.squares_of_four-requires-2-clause-a
squares_of_four-requires-2-clause-a c = passed_within16 16382 16382 (lit≤ tt) (lit≤ tt) c.pair.ensures.difference_size

pub squares_of_four-requires-2-clause-b : goal.squares_of_four-requires-2-clause-b
squares_of_four-requires-2-clause-b c = passed_within16 16382 16382 (lit≤ tt) (lit≤ tt) c.pair-2.ensures.difference_size

pub squares_of_four-requires-2-clause-c : goal.squares_of_four-requires-2-clause-c
squares_of_four-requires-2-clause-c c = passed_within16 16382 16382 (lit≤ tt) (lit≤ tt) c.pair-3.ensures.difference_size

pub squares_of_four-requires-2-clause-d : goal.squares_of_four-requires-2-clause-d
squares_of_four-requires-2-clause-d c = passed_within16 16382 16382 (lit≤ tt) (lit≤ tt) c.pair-4.ensures.difference_size

pub returns-clause-sums : goal.returns-clause-sums
returns-clause-sums c i hi =
    passed_lane 1073479696 i (lit≤ tt) c.squares_of_four.ensures.size
    ∙ c.squares_of_four.ensures.value i hi
    ∙ same_squares
    (passed_lane16 16382 i (lit≤ tt) c.pair.ensures.sum_size
    ∙ sum_of (c.pair.ensures.sum i hi) (passed_lane16 8191 i (lit≤ tt) (c.requires 0 (lit< tt)))
    (passed_lane16 8191 i (lit≤ tt) (c.requires 7 (lit< tt))))
    (passed_lane16 16382 i (lit≤ tt) c.pair-2.ensures.sum_size
    ∙ sum_of (c.pair-2.ensures.sum i hi) (passed_lane16 8191 i (lit≤ tt) (c.requires 1 (lit< tt)))
    (passed_lane16 8191 i (lit≤ tt) (c.requires 6 (lit< tt))))
    (passed_lane16 16382 i (lit≤ tt) c.pair-3.ensures.sum_size
    ∙ sum_of (c.pair-3.ensures.sum i hi) (passed_lane16 8191 i (lit≤ tt) (c.requires 2 (lit< tt)))
    (passed_lane16 8191 i (lit≤ tt) (c.requires 5 (lit< tt))))
    (passed_lane16 16382 i (lit≤ tt) c.pair-4.ensures.sum_size
    ∙ sum_of (c.pair-4.ensures.sum i hi) (passed_lane16 8191 i (lit≤ tt) (c.requires 3 (lit< tt)))
    (passed_lane16 8191 i (lit≤ tt) (c.requires 4 (lit< tt))))

pub returns-clause-differences : goal.returns-clause-differences
returns-clause-differences c i hi =
    passed_lane 1073479696 i (lit≤ tt) c.squares_of_four-2.ensures.size
    ∙ c.squares_of_four-2.ensures.value i hi
    ∙ same_squares
    (passed_lane16 16382 i (lit≤ tt) c.pair.ensures.difference_size
    ∙ difference_of (c.pair.ensures.difference i hi) (passed_lane16 8191 i (lit≤ tt) (c.requires 0 (lit< tt)))
    (passed_lane16 8191 i (lit≤ tt) (c.requires 7 (lit< tt))))
    (passed_lane16 16382 i (lit≤ tt) c.pair-2.ensures.difference_size
    ∙ difference_of (c.pair-2.ensures.difference i hi) (passed_lane16 8191 i (lit≤ tt) (c.requires 1 (lit< tt)))
    (passed_lane16 8191 i (lit≤ tt) (c.requires 6 (lit< tt))))
    (passed_lane16 16382 i (lit≤ tt) c.pair-3.ensures.difference_size
    ∙ difference_of (c.pair-3.ensures.difference i hi) (passed_lane16 8191 i (lit≤ tt) (c.requires 2 (lit< tt)))
    (passed_lane16 8191 i (lit≤ tt) (c.requires 5 (lit< tt))))
    (passed_lane16 16382 i (lit≤ tt) c.pair-4.ensures.difference_size
    ∙ difference_of (c.pair-4.ensures.difference i hi) (passed_lane16 8191 i (lit≤ tt) (c.requires 3 (lit< tt)))
    (passed_lane16 8191 i (lit≤ tt) (c.requires 4 (lit< tt))))

pub returns-clause-sums_size : goal.returns-clause-sums_size
returns-clause-sums_size c = passed_within 1073479696 1073479696 (lit≤ tt) (lit≤ tt) c.squares_of_four.ensures.size

pub returns-clause-differences_size : goal.returns-clause-differences_size
returns-clause-differences_size c = passed_within 1073479696 1073479696 (lit≤ tt)
    (lit≤ tt) c.squares_of_four-2.ensures.size
