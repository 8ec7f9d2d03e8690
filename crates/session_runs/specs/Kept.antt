-- What the run of a stream keeps, and what it stands for.
use Rattle.std.specs.Prelude.{◌≡◌, ℕ, ◌≤◌, Bool, true, false, Option, Some, None}
use Rattle.h263_types.specs.declared.clock.Clock.{Clock}
use Rattle.receiver_end.specs.Answers as receiver_end
use Rattle.receiver_end.specs.State.{mark_after, message_after}
use Rattle.receiver_end.specs.declared.answers.Played.{Played}
use Rattle.receiver_end.specs.declared.answers.Heard.{Heard}
use Rattle.stream_run.specs.declared.run.StreamRun.{StreamRun}
use Rattle.stream_run.specs.declared.run.Arrived.{Arrived}
use Rattle.stream_run.specs.declared.run.Arrived.TheVariants as arriveds
use Rattle.stream_run.specs.Kept.{IsStreamRun, RunStands}
use Rattle.packet_gaps.specs.Kept.{GapsStand}
use Rattle.session_intake.specs.declared.settings.Settings.{Settings}
use Rattle.session_runs.specs.declared.kept.KeptRun.{KeptRun}
use Rattle.session_runs.specs.Histories.{Ahead, Answer, Config, History, IsHeard, NoPlace, history_entries, next_number_in}

abbrev pub config_of : StreamRun → Config
config_of r =
    record {
      params = r.timed.receiver.params;
      rate = r.numbers.rate;
      lead = r.lead;
      wait = r.timed.times.wait;
    }

abbrev pub config_in : Settings → Config
config_in s = record { params = s.params; rate = s.rate; lead = s.params.lead; wait = s.wait }

-- it is a run with these settings, and nothing of it is later than now
pub record IsKeptRun (s : Settings) (now : ℕ) (k : KeptRun) : Type 0 where
  pub run : IsStreamRun k.run
  pub config : config_of k.run ≡ config_in s
  pub last : k.run.timed.times.last ≤ now
  pub few : k.run.timed.times.next ≤ 1048576

-- it is the run of this history
pub record HistoryStands (k : KeptRun) (h : History) : Type 0 where
  pub run : RunStands k.run h.first h.past
  pub until : k.until ≡ h.until
  pub unheard : k.unheard ≡ h.unheard
  pub gaps : GapsStand k.gaps h.gaps

-- the answer of a run is this one
abbrev pub IsAnswerOf : Clock → Arrived → Answer → Type 0
IsAnswerOf clock answer NoPlace = answer ≡ arriveds.NoPlace
IsAnswerOf clock answer (Ahead number) = answer ≡ arriveds.Ahead number
IsAnswerOf clock answer (IsHeard heard) =
    (h : Heard) × (answer ≡ arriveds.Heard h) × receiver_end.IsHeard clock h heard

-- it is the play of the next picture: its number, its mark and its message
pub record IsPlay (c : Config) (h : History) (played : Played) : Type 0 where
  pub number : played.number ≡ next_number_in c h
  pub told : receiver_end.IsPlayed c.params.clock played (mark_after c.params (history_entries c h))
      (message_after c.params (history_entries c h))

-- there is one where it is due
abbrev pub ArePlays : Config → History → Bool → Option Played → Type 0
ArePlays c h false played = played ≡ None
ArePlays c h true played = (p : Played) × (played ≡ Some p) × IsPlay c h p
