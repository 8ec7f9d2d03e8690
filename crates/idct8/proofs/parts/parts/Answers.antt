use Rattle.std.proofs.Common.{lit≤}
use Rattle.idct8.specs.Vectors.{lane}
use Rattle.idct8.proofs.Vectors.{numbers16, numbers_small16}
use Rattle.idct8.proofs.Shifts.{high_words, low_words, narrow_words, narrowing_fits, whole_is}
use Rattle.idct8.proofs.parts.parts.Goals as goal

pub overflow_cast-result : goal.overflow_cast-result
overflow_cast-result c = narrowing_fits (lit≤ tt) (high_words c.args.v c.requires)

pub overflow_cast-result-2 : goal.overflow_cast-result-2
overflow_cast-result-2 c = narrowing_fits (lit≤ tt) (low_words c.args.v c.requires)

pub returns-clause-whole : goal.returns-clause-whole
returns-clause-whole c i hi =
    whole_is (lane c.args.v i) _ _ (numbers16 (lit≤ tt) (narrow_words (lit≤ tt) (high_words c.args.v c.requires)) i hi)
    (numbers16 (lit≤ tt) (narrow_words (lit≤ tt) (low_words c.args.v c.requires)) i hi)

pub returns-clause-high_size : goal.returns-clause-high_size
returns-clause-high_size c = numbers_small16 8191 (lit≤ tt) (lit≤ tt)
    (narrow_words (lit≤ tt) (high_words c.args.v c.requires))

pub returns-clause-low_size : goal.returns-clause-low_size
returns-clause-low_size c = numbers_small16 8191 (lit≤ tt) (lit≤ tt)
    (narrow_words (lit≤ tt) (low_words c.args.v c.requires))
