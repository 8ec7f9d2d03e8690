-- The sessions for which a slot stands, what is told of them, and where they refuse.
use Rattle.std.specs.Prelude.{◌≡◌, ℕ, List, length, Bool, Option, Some, None, Result, Ok, Err}
use Rattle.h263_types.specs.declared.clock.Clock.{Clock}
use Rattle.h263_types.specs.Sizes.{size_of_picture}
use Rattle.h263_planes.specs.Picture.{Picture}
use Rattle.h263_planes.specs.Samples.{bytes_of}
use Rattle.receiver_end.specs.State as receivers
use Rattle.stream_choice.specs.declared.streams.Run.{Run}
use Rattle.stream_choice.specs.Choice.{run_source}
use Rattle.session_intake.specs.declared.settings.Settings.{Settings}
use Rattle.session_runs.specs.Histories.{Config, history_entries}
use Rattle.session_runs.specs.Kept.{config_in}
use Rattle.call_session.specs.declared.session.Session.{Session}
use Rattle.call_session.specs.declared.verdict.Arrived.{Arrived}
use Rattle.call_session.specs.declared.verdict.RunPlayed.{RunPlayed}
use Rattle.call_session.specs.Sessions.{SessionEntry, Outcome, SessionState, session_run}
use Rattle.call_session.specs.Ruled.{IsRunPlayed, IsVerdict}
use Rattle.call_session.specs.Whole.{SessionStands}
use Rattle.h263rps_c.specs.declared.refusals.EndRefusal.{EndRefusal}
use Rattle.h263rps_c.specs.declared.refusals.EndRefusal.TheVariants.{NotStarted, Started, BadParams, NoStream}
use Rattle.h263rps_c.specs.declared.session_answers.CArrived.{CArrived}
use Rattle.h263rps_c.specs.declared.session_answers.CTurn.{CTurn}
use Rattle.h263rps_c.specs.Numbers.{number_or_zero}
use Rattle.h263rps_c.specs.SessionNumbers.{arrived_numbers, no_turn, turn_numbers}

-- inside is a session with these settings, after these datagrams and plays, the newest first
abbrev pub HoldsSession : Settings → List SessionEntry → Option Session → Type 0
HoldsSession s past None = ⊥
HoldsSession s past (Some x) = (x.rules.settings ≡ s) × SessionStands x past

-- where it stands then
abbrev pub state_after : Settings → List SessionEntry → SessionState
state_after s past = session_run (config_in s) past

-- the SSRC of the stream of this run then, if it has one
abbrev pub source_after : Settings → List SessionEntry → Run → Option ℕ
source_after s past run = run_source (state_after s past).follows.streams run

-- the same of a run that is named, or of none
abbrev pub source_named : Settings → List SessionEntry → Option Run → Option ℕ
source_named s past None = None
source_named s past (Some run) = source_after s past run

-- the picture on the screen then: of the stream that is followed
abbrev pub screen_after : Settings → List SessionEntry → Picture
screen_after s past =
    (receivers.run_of s.params
    (history_entries (config_in s) (state_after s past).follows.lines.followed)).screen

-- these bytes are that picture, and as many as it has
abbrev pub ShowsScreen : Option Session → List ℕ → Type 0
ShowsScreen inside bytes = (s : Settings) (past : List SessionEntry)
    → HoldsSession s past inside
    → (bytes ≡ bytes_of (screen_after s past))
    × (length bytes ≡ size_of_picture (screen_after s past).format)

-- ---- answers

-- the answer to a datagram is this outcome, in numbers, and whether a rival is told of
pub record TellsOutcome (clock : Clock) (answer : CArrived) (outcome : Outcome) (rival : Bool) : Type 0 where
  pub told : Arrived
  pub is_verdict : IsVerdict clock told.verdict outcome
  pub is_rival : told.is_rival ≡ rival
  pub is_told : answer ≡ arrived_numbers told

abbrev pub numbers_of_turn : Option RunPlayed → ℕ → CTurn
numbers_of_turn None source = no_turn
numbers_of_turn (Some played) source = turn_numbers played source

-- the SSRC of the stream of which a picture is played
abbrev pub played_source : Settings → List SessionEntry → Option Run → ℕ
played_source s past run = number_or_zero (source_named s past run)

-- the answer to a play is what was played of this run, in numbers, with the SSRC of its stream
pub record TellsTurn (c : Config) (st : SessionState) (turn : CTurn) (run : Option Run) (source : ℕ) : Type 0 where
  pub told : Option RunPlayed
  pub is_played : IsRunPlayed c st run told
  pub is_told : turn ≡ numbers_of_turn told source

-- ---- where they refuse

-- a call of an empty slot
abbrev pub unless_started : Option Session → Option EndRefusal
unless_started None = Some NotStarted
unless_started (Some x) = None

-- a start with these settings, if there is memory enough
abbrev pub session_refusal : Option Session → Result Settings ℕ → Option EndRefusal
session_refusal (Some x) s = Some Started
session_refusal None (Err number) = Some BadParams
session_refusal None (Ok s) = None

-- the number of the first setting that is out of its range is told where that is the refusal
abbrev pub setting_after : Option Session → Result Settings ℕ → ℕ → ℕ
setting_after (Some x) s before = before
setting_after None (Err number) before = number
setting_after None (Ok s) before = before

-- a question for the SSRC of this run
abbrev pub stream_refusal : Option ℕ → Option EndRefusal
stream_refusal None = Some NoStream
stream_refusal (Some source) = None
