use Rattle.std.proofs.Common.{◌^◌, lit≤}
use Rattle.idct8.proofs.Halves.{dot_words}
use Rattle.idct8.proofs.Vectors.{numbers, numbers_small}
use Rattle.idct8.proofs.narrow.dots.Goals as goal

pub returns-clause-sums : goal.returns-clause-sums
returns-clause-sums c i hi = numbers (lit≤ tt) (dot_words c.args.a c.args.m c.requires.a c.requires.m) i hi

pub returns-clause-size : goal.returns-clause-size
returns-clause-size c = numbers_small (2 ^ 26) (lit≤ tt) (lit≤ tt)
    (dot_words c.args.a c.args.m c.requires.a c.requires.m)
