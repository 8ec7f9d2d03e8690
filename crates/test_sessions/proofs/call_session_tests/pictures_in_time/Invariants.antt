use Rattle.call_session.specs.Whole.{IsSession}
use Rattle.test_sessions.proofs.call_session_tests.pictures_in_time.Given as goal

abbrev pub invariant-pictures : goal.invariant-pictures
invariant-pictures g l = IsSession l.session
