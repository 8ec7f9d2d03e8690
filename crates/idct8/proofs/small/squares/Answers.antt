use Rattle.std.proofs.Common.{lit≤}
use Rattle.idct8.specs.Vectors.{lane}
use Rattle.idct8.proofs.Squares.{two_squares}
use Rattle.idct8.proofs.Vectors.{sum_words, square_words, numbers, numbers_small}
use Rattle.idct8.proofs.small.squares.Goals as goal

pub returns-clause-value : goal.returns-clause-value
returns-clause-value c i hi =
    two_squares (lane c.args.a i) (lane c.args.b i)
    (numbers (lit≤ tt) (sum_words (lit≤ tt) (square_words c.args.a c.requires.a)
    (square_words c.args.b c.requires.b)) i hi)

pub returns-clause-size : goal.returns-clause-size
returns-clause-size c = numbers_small 536739848 (lit≤ tt) (lit≤ tt)
    (sum_words (lit≤ tt) (square_words c.args.a c.requires.a) (square_words c.args.b c.requires.b))
