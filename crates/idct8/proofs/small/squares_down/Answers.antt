-- The squares before the row are added up by columns, and no sum overflows.
use Rattle.std.proofs.Common.{◌∙◌, lit≤, lit<, refl, w32}
use Rattle.idct8.specs.Vectors.{lane, row_at}
use Rattle.idct8.proofs.Squares.{eight_squares, four_small, same_squares, small_sum}
use Rattle.idct8.proofs.Vectors.{sum_words, own_words, numbers, numbers_small, passed_lane16, passed_within16}
use Rattle.idct8.proofs.small.squares_down.Goals as goal

pub squares_of_four-requires-clause-a : goal.squares_of_four-requires-clause-a
squares_of_four-requires-clause-a c = passed_within16 255 16382 (lit≤ tt) (lit≤ tt) (c.requires 0 (lit< tt))

pub squares_of_four-requires-clause-b : goal.squares_of_four-requires-clause-b
squares_of_four-requires-clause-b c = passed_within16 255 16382 (lit≤ tt) (lit≤ tt) (c.requires 1 (lit< tt))

pub squares_of_four-requires-clause-c : goal.squares_of_four-requires-clause-c
squares_of_four-requires-clause-c c = passed_within16 255 16382 (lit≤ tt) (lit≤ tt) (c.requires 2 (lit< tt))

pub squares_of_four-requires-clause-d : goal.squares_of_four-requires-clause-d
squares_of_four-requires-clause-d c = passed_within16 255 16382 (lit≤ tt) (lit≤ tt) (c.requires 3 (lit< tt))

pub squares_of_four-requires-2-clause-a : goal.squares_of_four-requires-2-clause-a
squares_of_four-requires-2-clause-a c = passed_within16 255 16382 (lit≤ tt) (lit≤ tt) (c.requires 4 (lit< tt))

pub squares_of_four-requires-2-clause-b : goal.squares_of_four-requires-2-clause-b
squares_of_four-requires-2-clause-b c = passed_within16 255 16382 (lit≤ tt) (lit≤ tt) (c.requires 5 (lit< tt))

pub squares_of_four-requires-2-clause-c : goal.squares_of_four-requires-2-clause-c
squares_of_four-requires-2-clause-c c = passed_within16 255 16382 (lit≤ tt) (lit≤ tt) (c.requires 6 (lit< tt))

pub squares_of_four-requires-2-clause-d : goal.squares_of_four-requires-2-clause-d
squares_of_four-requires-2-clause-d c = passed_within16 255 16382 (lit≤ tt) (lit≤ tt) (c.requires 7 (lit< tt))

pub returns-clause-value : goal.returns-clause-value
returns-clause-value c i hi =
    numbers (lit≤ tt) (sum_words (lit≤ tt)
    (own_words w32 1073479696 c.squares_of_four.result c.squares_of_four.ensures.size)
    (own_words w32 1073479696 c.squares_of_four-2.result c.squares_of_four-2.ensures.size)) i hi
    ∙ eight_squares refl refl
    (c.squares_of_four.ensures.value i hi
    ∙ same_squares (passed_lane16 255 i (lit≤ tt) (c.requires 0 (lit< tt)))
    (passed_lane16 255 i (lit≤ tt) (c.requires 1 (lit< tt)))
    (passed_lane16 255 i (lit≤ tt) (c.requires 2 (lit< tt)))
    (passed_lane16 255 i (lit≤ tt) (c.requires 3 (lit< tt))))
    (c.squares_of_four-2.ensures.value i hi ∙ same_squares (passed_lane16 255 i (lit≤ tt) (c.requires 4 (lit< tt)))
    (passed_lane16 255 i (lit≤ tt) (c.requires 5 (lit< tt)))
    (passed_lane16 255 i (lit≤ tt) (c.requires 6 (lit< tt)))
    (passed_lane16 255 i (lit≤ tt) (c.requires 7 (lit< tt))))

pub returns-clause-size : goal.returns-clause-size
returns-clause-size c = record {
  long = (numbers_small 2146959392 (lit≤ tt) (lit≤ tt)
      (sum_words (lit≤ tt) (own_words w32 1073479696 c.squares_of_four.result c.squares_of_four.ensures.size)
      (own_words w32 1073479696 c.squares_of_four-2.result c.squares_of_four-2.ensures.size))).long;
  within = λ i hi.
      small_sum (
      numbers (lit≤ tt) (sum_words (lit≤ tt)
      (own_words w32 1073479696 c.squares_of_four.result c.squares_of_four.ensures.size)
      (own_words w32 1073479696 c.squares_of_four-2.result c.squares_of_four-2.ensures.size)) i hi
      ∙ eight_squares refl refl
      (c.squares_of_four.ensures.value i hi ∙ same_squares (passed_lane16 255 i (lit≤ tt) (c.requires 0 (lit< tt)))
      (passed_lane16 255 i (lit≤ tt) (c.requires 1 (lit< tt)))
      (passed_lane16 255 i (lit≤ tt) (c.requires 2 (lit< tt)))
      (passed_lane16 255 i (lit≤ tt) (c.requires 3 (lit< tt))))
      (c.squares_of_four-2.ensures.value i hi
      ∙ same_squares (passed_lane16 255 i (lit≤ tt) (c.requires 4 (lit< tt)))
      (passed_lane16 255 i (lit≤ tt) (c.requires 5 (lit< tt)))
      (passed_lane16 255 i (lit≤ tt) (c.requires 6 (lit< tt)))
      (passed_lane16 255 i (lit≤ tt) (c.requires 7 (lit< tt)))))
      (four_small (lane (row_at c.args.r 0) i) (lane (row_at c.args.r 1) i) (lane (row_at c.args.r 2) i)
      (lane (row_at c.args.r 3) i) ((c.requires 0 (lit< tt)).within i hi) ((c.requires 1 (lit< tt)).within i hi)
      ((c.requires 2 (lit< tt)).within i hi) ((c.requires 3 (lit< tt)).within i hi))
      (four_small (lane (row_at c.args.r 4) i) (lane (row_at c.args.r 5) i) (lane (row_at c.args.r 6) i)
      (lane (row_at c.args.r 7) i) ((c.requires 4 (lit< tt)).within i hi) ((c.requires 5 (lit< tt)).within i hi)
      ((c.requires 6 (lit< tt)).within i hi) ((c.requires 7 (lit< tt)).within i hi));
}
