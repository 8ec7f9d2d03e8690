use Rattle.std.proofs.Common.{lit≤, w16}
use Rattle.idct8.proofs.Vectors.{sum_words16, difference_words16, own_words, numbers16, numbers_small16}
use Rattle.idct8.proofs.small.small_pair.Goals as goal

pub returns-clause-sum : goal.returns-clause-sum
returns-clause-sum c = numbers16 (lit≤ tt) (sum_words16 (lit≤ tt) (own_words w16 4095 c.args.a c.requires.a)
    (own_words w16 4095 c.args.b c.requires.b))

pub returns-clause-sum_size : goal.returns-clause-sum_size
returns-clause-sum_size c = numbers_small16 8191 (lit≤ tt) (lit≤ tt)
    (sum_words16 (lit≤ tt) (own_words w16 4095 c.args.a c.requires.a) (own_words w16 4095 c.args.b c.requires.b))

pub returns-clause-difference : goal.returns-clause-difference
returns-clause-difference c =
    numbers16 (lit≤ tt) (difference_words16 (lit≤ tt) (own_words w16 4095 c.args.a c.requires.a)
    (own_words w16 4095 c.args.b c.requires.b))

pub returns-clause-difference_size : goal.returns-clause-difference_size
returns-clause-difference_size c = numbers_small16 8191 (lit≤ tt) (lit≤ tt)
    (difference_words16 (lit≤ tt) (own_words w16 4095 c.args.a c.requires.a) (own_words w16 4095 c.args.b c.requires.b))
