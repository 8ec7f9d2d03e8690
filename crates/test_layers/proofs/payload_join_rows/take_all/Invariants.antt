use Rattle.std.proofs.Common.{◌≡◌, []}
use Rattle.test_layers.proofs.payload_join_rows.take_all.Given as goal

abbrev pub invariant-words : goal.invariant-words
invariant-words l = l.joiner.left ≡ []
