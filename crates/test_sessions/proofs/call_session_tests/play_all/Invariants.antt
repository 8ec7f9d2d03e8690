use Rattle.call_session.specs.Whole.{IsSession}
use Rattle.test_sessions.proofs.call_session_tests.play_all.Given as goal

abbrev pub invariant-plays : goal.invariant-plays
invariant-plays l = IsSession l.session
