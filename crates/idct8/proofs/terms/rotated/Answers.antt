use Rattle.std.proofs.Common.{lit≤, ◌^◌}
use Rattle.idct8.proofs.Vectors.{sum_words, difference_words, product_words, numbers, numbers_small}
use Rattle.idct8.proofs.terms.rotated.Goals as goal

pub returns-clause-first : goal.returns-clause-first
returns-clause-first c =
    numbers (lit≤ tt) (sum_words (lit≤ tt) (product_words c.args.m0 c.args.a c.requires.m0 c.requires.a)
    (product_words c.args.m1 c.args.b c.requires.m1 c.requires.b))

pub returns-clause-second : goal.returns-clause-second
returns-clause-second c =
    numbers (lit≤ tt) (difference_words (lit≤ tt) (product_words c.args.m1 c.args.a c.requires.m1 c.requires.a)
    (product_words c.args.m0 c.args.b c.requires.m0 c.requires.b))

pub returns-clause-first_size : goal.returns-clause-first_size
returns-clause-first_size c =
    numbers_small (2 ^ 28) (lit≤ tt) (lit≤ tt)
    (sum_words (lit≤ tt) (product_words c.args.m0 c.args.a c.requires.m0 c.requires.a)
    (product_words c.args.m1 c.args.b c.requires.m1 c.requires.b))

pub returns-clause-second_size : goal.returns-clause-second_size
returns-clause-second_size c =
    numbers_small (2 ^ 28) (lit≤ tt) (lit≤ tt)
    (difference_words (lit≤ tt) (product_words c.args.m1 c.args.a c.requires.m1 c.requires.a)
    (product_words c.args.m0 c.args.b c.requires.m0 c.requires.b))
