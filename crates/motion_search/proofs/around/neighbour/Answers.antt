use Rattle.std.proofs.Common.{arith}
use Rattle.std.proofs.lemmas.Int.{ints}
use Rattle.motion_search.proofs.Squares.{same_vectors}
use Rattle.motion_search.proofs.around.neighbour.Goals as goal

pub returns : goal.returns
returns c =
    same_vectors _ _ _ _
    (omega (arith, ints, c.requires.vector.x.low, c.requires.vector.x.high))
    (omega (arith, ints, c.requires.vector.y.low, c.requires.vector.y.high, c.requires.n))
