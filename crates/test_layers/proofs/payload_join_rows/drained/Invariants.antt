use Rattle.std.proofs.Common.{length}
use Rattle.test_layers.proofs.payload_join_rows.drained.Given as goal

abbrev pub decreases-loop-packet : goal.decreases-loop-packet
decreases-loop-packet l = length l.joiner.left
