use Rattle.std.proofs.Common.{◌≡◌}
use Rattle.call_rings.specs.Messages.{said_of}
use Rattle.test_layers.proofs.call_rings_rows.many_messages.Given as goal

abbrev pub invariant-loop-about : goal.invariant-loop-about
invariant-loop-about l = said_of l.ring ≡ l.about
