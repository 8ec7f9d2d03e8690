-- What a session says by its own settings is said by those that it holds.
use Rattle.std.proofs.Common.{◌≡◌, List, Option, Some, None, ap, sym, subst}
use Rattle.session_intake.specs.declared.settings.Settings.{Settings}
use Rattle.session_runs.specs.Histories.{Config}
use Rattle.stream_choice.specs.declared.streams.Run.{Run}
use Rattle.call_session.specs.declared.session.Session.{Session}
use Rattle.call_session.specs.declared.verdict.RunPlayed.{RunPlayed}
use Rattle.call_session.specs.Sessions.{SessionEntry, SessionState}
use Rattle.call_session.specs.Ruled.{IsRunPlayed}
use Rattle.call_session.specs.Whole.{SessionStands}
use Rattle.h263rps_c.specs.Sessions.{HoldsSession}

-- a view of the same session holds the same
pub same : (x y : Session) (s : Settings) (past : List SessionEntry) → x ≡ y → HoldsSession s past (Some y)
    → HoldsSession s past (Some x)
same x y s past e held = subst (λ (z : Session). HoldsSession s past (Some z)) (sym e) held

pub by_settings : (P : Settings → List SessionEntry → Type 0) (x : Session) (s : Settings) (past : List SessionEntry)
    → ((past : List SessionEntry) → SessionStands x past → P x.rules.settings past) → HoldsSession s past (Some x)
    → P s past
by_settings P x s past told held = subst (λ (t : Settings). P t past) held.0 (told past held.1)

abbrev run_of_played : Option RunPlayed → Option Run
run_of_played None = None
run_of_played (Some played) = Some played.run

-- the run of what is played is the one of which a picture was due
pub run_played : (c : Config) (st : SessionState) (run : Option Run) (turn : RunPlayed)
    → IsRunPlayed c st run (Some turn)
    → run ≡ Some turn.run
run_played c st None turn x = absurd cc
run_played c st (Some run) turn x = ap run_of_played (sym x.1)
