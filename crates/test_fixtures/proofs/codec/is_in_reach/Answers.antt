use Rattle.std.proofs.Common.{arith}
use Rattle.std.proofs.lemmas.Int.{ints}
use Rattle.test_fixtures.proofs.codec.is_in_reach.Goals as goal

pub returns : goal.returns
returns c is = (c.reach-reach.ensures c.args.vector.x c.args.vector.y).1 (
  (omega (arith, ints), omega (arith, ints)),
  (omega (arith, ints), omega (arith, ints)),
)
