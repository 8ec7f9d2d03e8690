use Rattle.duplex_ends.specs.Pair.{AreInCall}
use Rattle.test_layers.proofs.duplex_ends_rows.lose.Given as goal

abbrev pub invariant-times : goal.invariant-times
invariant-times l = AreInCall l.own l.far
