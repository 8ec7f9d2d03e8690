use Rattle.call_session.specs.Whole.{IsSession}
use Rattle.test_sessions.proofs.call_session_tests.packets_too_fast.Given as goal

abbrev pub invariant-packets : goal.invariant-packets
invariant-packets g l = IsSession l.session
