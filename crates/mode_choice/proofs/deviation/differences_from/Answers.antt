use Rattle.std.proofs.Common.{arith}
use Rattle.mode_choice.proofs.deviation.differences_from.Goals as goal

pub returns-clause-most : goal.returns-clause-most
returns-clause-most c = omega (arith, c.sad.ensures.most, c.told-samples)
