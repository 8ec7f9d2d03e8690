use Rattle.call_session.specs.Whole.{IsSession}
use Rattle.test_sessions.proofs.call_session_tests.lost_packet_comes_again.Given as goal

abbrev pub invariant-early : goal.invariant-early
invariant-early g l = IsSession l.session

abbrev pub invariant-later : goal.invariant-later
invariant-later g l = IsSession l.session
