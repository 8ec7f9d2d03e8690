-- What the rules of a session keep, and what they stand for.
use Rattle.std.specs.Prelude.{◌≡◌, ◌<◌, Option, Some, None, false}
use Rattle.h263_types.specs.declared.clock.Clock.{Clock}
use Rattle.stream_choice.specs.declared.streams.Run.{Run}
use Rattle.stream_choice.specs.Granting.{BudgetStands}
use Rattle.stream_run.specs.declared.run.Arrived as run_answers
use Rattle.session_intake.specs.declared.seen.Cause.{Cause}
use Rattle.call_session.specs.declared.rules.Rules.{Rules}
use Rattle.call_session.specs.declared.verdict.Arrived.{Arrived}
use Rattle.call_session.specs.declared.verdict.RunPlayed.{RunPlayed}
use Rattle.call_session.specs.declared.verdict.Verdict.{Verdict}
use Rattle.call_session.specs.declared.verdict.Verdict.TheVariants as verdicts
use Rattle.receiver_end.specs.declared.answers.Played.{Played}
use Rattle.session_intake.specs.Settings.{IsSettings}
use Rattle.session_runs.specs.Histories.{Config}
use Rattle.session_runs.specs.Kept.{IsAnswerOf, IsPlay}
use Rattle.session_runs.specs.Lines.{line_of}
use Rattle.session_runs.specs.Three.{AreKept}
use Rattle.session_runs.specs.Followed.{FollowsStand}
use Rattle.session_intake.specs.Asked.{AreBudgets, AskedStand, IsBudget}
use Rattle.call_session.specs.Sessions.{Dropped, Outcome, SessionState, Taken}

-- its parts fit one another
pub record AreSessionRules (r : Rules) : Type 0 where
  pub settings : IsSettings r.settings
  pub time : r.time < 4611686018427387904
  pub kept : AreKept r.settings r.time r.following.runs
  pub budgets : AreBudgets r.time r.budgets
  pub rivals : IsBudget 1 r.time r.rivals

pub record StateStands (r : Rules) (st : SessionState) : Type 0 where
  pub time : r.time ≡ st.now
  pub follows : FollowsStand r.following st.follows
  pub asked : AskedStand r.budgets st.asked
  pub rivals : BudgetStands r.rivals st.rivals
  pub counts : r.counts ≡ st.counts

abbrev pub verdict_dropped : Cause → Arrived
verdict_dropped cause = record { verdict = verdicts.Dropped cause; is_rival = false }

abbrev pub IsVerdict : Clock → Verdict → Outcome → Type 0
IsVerdict clock v (Dropped cause) = v ≡ verdicts.Dropped cause
IsVerdict clock v (Taken run source answer) =
    (a : run_answers.Arrived)
    × (v ≡ verdicts.Taken (record { run = run; source = source; answer = a })) × IsAnswerOf clock a answer

-- the run of which a picture is played, and that
abbrev pub IsRunPlayed : Config → SessionState → Option Run → Option RunPlayed → Type 0
IsRunPlayed c st None played = played ≡ None
IsRunPlayed c st (Some run) played =
    (p : Played) × (played ≡ Some (record { run = run; played = p })) × IsPlay c (line_of run st.follows.lines) p
