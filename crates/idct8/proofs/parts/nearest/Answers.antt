use Rattle.std.proofs.Common.{lit≤, ◌∙◌}
use Rattle.idct8.specs.Vectors.{lane}
use Rattle.idct8.proofs.Vectors.{numbers, numbers_small}
use Rattle.idct8.proofs.Shifts.{nearest_words, rounded_in_steps}
use Rattle.idct8.proofs.parts.nearest.Goals as goal

pub returns-clause-value : goal.returns-clause-value
returns-clause-value c i hi =
    numbers (lit≤ tt) (nearest_words c.args.high c.args.low c.requires.high c.requires.low) i hi
    ∙ rounded_in_steps (lane c.args.high i) (lane c.args.low i)

pub returns-clause-size : goal.returns-clause-size
returns-clause-size c = numbers_small 270000 (lit≤ tt) (lit≤ tt)
    (nearest_words c.args.high c.args.low c.requires.high c.requires.low)
