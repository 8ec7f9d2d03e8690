use Rattle.call_session.specs.Whole.{IsSession}
use Rattle.test_sessions.proofs.call_session_tests.exact_after.Given as goal

abbrev pub invariant-pictures : goal.invariant-pictures
invariant-pictures l = IsSession l.session
