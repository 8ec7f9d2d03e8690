use Rattle.std.proofs.Common.{lit≤, ◌^◌, w32}
use Rattle.idct8.proofs.Vectors.{sum_words, difference_words, own_words, numbers, numbers_small}
use Rattle.idct8.proofs.terms.halves.Goals as goal

pub returns-clause-sum : goal.returns-clause-sum
returns-clause-sum c = numbers (lit≤ tt) (sum_words (lit≤ tt) (own_words w32 (2 ^ 28) c.args.a c.requires.a)
    (own_words w32 (2 ^ 28) c.args.b c.requires.b))

pub returns-clause-difference : goal.returns-clause-difference
returns-clause-difference c =
    numbers (lit≤ tt) (difference_words (lit≤ tt) (own_words w32 (2 ^ 28) c.args.a c.requires.a)
    (own_words w32 (2 ^ 28) c.args.b c.requires.b))

pub returns-clause-sum_size : goal.returns-clause-sum_size
returns-clause-sum_size c = numbers_small (2 ^ 29) (lit≤ tt) (lit≤ tt)
    (sum_words (lit≤ tt) (own_words w32 (2 ^ 28) c.args.a c.requires.a) (own_words w32 (2 ^ 28) c.args.b c.requires.b))

pub returns-clause-difference_size : goal.returns-clause-difference_size
returns-clause-difference_size c = numbers_small (2 ^ 29) (lit≤ tt) (lit≤ tt)
    (difference_words (lit≤ tt) (own_words w32 (2 ^ 28) c.args.a c.requires.a)
    (own_words w32 (2 ^ 28) c.args.b c.requires.b))
