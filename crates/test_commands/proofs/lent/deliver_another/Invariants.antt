use Rattle.std.proofs.Common.{◌≡◌}
use Rattle.test_commands.proofs.lent.deliver_another.Given as goal

-- the receiver has heard some packets, and played nothing
abbrev pub invariant-packets : goal.invariant-packets
invariant-packets l = record {
  params : l.receiver.params ≡ l.fn.receiver.params;
  played : l.receiver.played ≡ l.fn.receiver.played;
}
