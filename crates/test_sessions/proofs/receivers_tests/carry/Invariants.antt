use Rattle.std.proofs.Common.{◌≡◌}
use Rattle.test_sessions.proofs.receivers_tests.carry.Given as goal

-- nothing was played
abbrev pub invariant-packets : goal.invariant-packets
invariant-packets l = l.receiver.played ≡ l.fn.receiver.played
