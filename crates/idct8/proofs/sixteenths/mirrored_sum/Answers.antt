use Rattle.std.proofs.Common.{lit≤, w16}
use Rattle.idct8.proofs.Vectors.{sum_words16, own_words, numbers16, numbers_small16}
use Rattle.idct8.proofs.sixteenths.mirrored_sum.Goals as goal

pub returns-clause-sum : goal.returns-clause-sum
returns-clause-sum c = numbers16 (lit≤ tt) (sum_words16 (lit≤ tt) (own_words w16 255 c.args.a c.requires.a)
    (own_words w16 255 c.args.b c.requires.b))

pub returns-clause-size : goal.returns-clause-size
returns-clause-size c = numbers_small16 510 (lit≤ tt) (lit≤ tt)
    (sum_words16 (lit≤ tt) (own_words w16 255 c.args.a c.requires.a) (own_words w16 255 c.args.b c.requires.b))
