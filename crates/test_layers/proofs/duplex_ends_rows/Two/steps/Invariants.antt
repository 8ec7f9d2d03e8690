use Rattle.duplex_ends.specs.Pair.{AreInCall}
use Rattle.test_layers.proofs.duplex_ends_rows.Two.steps.Given as goal

abbrev pub invariant-steps : goal.invariant-steps
invariant-steps l = AreInCall l.self.a l.self.b
