use Rattle.std.proofs.Common.{◌∙◌, lit≤, w32}
use Rattle.idct8.proofs.Squares.{four_squares}
use Rattle.idct8.proofs.Vectors.{sum_words, own_words, numbers, numbers_small, passed_lane16, passed_within16}
use Rattle.idct8.proofs.small.squares_of_four.Goals as goal

pub squares-requires-clause-a : goal.squares-requires-clause-a
squares-requires-clause-a c = passed_within16 16382 16382 (lit≤ tt) (lit≤ tt) c.requires.a

pub squares-requires-clause-b : goal.squares-requires-clause-b
squares-requires-clause-b c = passed_within16 16382 16382 (lit≤ tt) (lit≤ tt) c.requires.b

pub squares-requires-2-clause-a : goal.squares-requires-2-clause-a
squares-requires-2-clause-a c = passed_within16 16382 16382 (lit≤ tt) (lit≤ tt) c.requires.c

pub squares-requires-2-clause-b : goal.squares-requires-2-clause-b
squares-requires-2-clause-b c = passed_within16 16382 16382 (lit≤ tt) (lit≤ tt) c.requires.d

pub returns-clause-value : goal.returns-clause-value
returns-clause-value c i hi =
    numbers (lit≤ tt) (sum_words (lit≤ tt) (own_words w32 536739848 c.squares.result c.squares.ensures.size)
    (own_words w32 536739848 c.squares-2.result c.squares-2.ensures.size)) i hi
    ∙ four_squares (c.squares.ensures.value i hi) (c.squares-2.ensures.value i hi)
    (passed_lane16 16382 i (lit≤ tt) c.requires.a) (passed_lane16 16382 i (lit≤ tt) c.requires.b)
    (passed_lane16 16382 i (lit≤ tt) c.requires.c) (passed_lane16 16382 i (lit≤ tt) c.requires.d)

pub returns-clause-size : goal.returns-clause-size
returns-clause-size c =
    numbers_small 1073479696 (lit≤ tt) (lit≤ tt)
    (sum_words (lit≤ tt) (own_words w32 536739848 c.squares.result c.squares.ensures.size)
    (own_words w32 536739848 c.squares-2.result c.squares-2.ensures.size))
