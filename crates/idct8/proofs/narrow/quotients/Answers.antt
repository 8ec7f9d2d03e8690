use Rattle.std.proofs.Common.{lit≤}
use Rattle.idct8.proofs.Shifts.{narrow_words, narrowing_fits, quotient_words}
use Rattle.idct8.proofs.Vectors.{numbers16, numbers_small16}
use Rattle.idct8.proofs.narrow.quotients.Goals as goal

pub overflow_cast-result : goal.overflow_cast-result
overflow_cast-result c = narrowing_fits (lit≤ tt) (quotient_words c.args.v c.requires)

pub returns-clause-value : goal.returns-clause-value
returns-clause-value c i hi = numbers16 (lit≤ tt) (narrow_words (lit≤ tt) (quotient_words c.args.v c.requires)) i hi

pub returns-clause-size : goal.returns-clause-size
returns-clause-size c = numbers_small16 64 (lit≤ tt) (lit≤ tt)
    (narrow_words (lit≤ tt) (quotient_words c.args.v c.requires))
