use Rattle.std.proofs.Common.{◌≡◌}
use Rattle.payload_join.specs.Places.{forgotten}
use Rattle.payload_join.proofs.ring.clear.Given as goal

abbrev pub invariant-loop-k : goal.invariant-loop-k
invariant-loop-k l = l.parts ≡ forgotten l.initial.parts l.from l.k
