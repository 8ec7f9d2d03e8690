-- What the streams of a session stand for.
use Rattle.std.specs.Prelude.{◌≡◌, ℕ, List, Option, Some, None}
use Rattle.receiver_end.specs.declared.answers.Played.{Played}
use Rattle.stream_choice.specs.declared.streams.Run.{Run}
use Rattle.stream_choice.specs.declared.streams.Taker.{Taker}
use Rattle.stream_numbers.specs.declared.packet.Packet.{Packet}
use Rattle.stream_run.specs.declared.run.Arrived.{Arrived}
use Rattle.session_intake.specs.declared.settings.Settings.{Settings}
use Rattle.session_runs.specs.declared.following.Following.{Following}
use Rattle.session_runs.specs.Histories.{Config}
use Rattle.session_runs.specs.Lines.{begun_lines, line_of}
use Rattle.session_runs.specs.Kept.{IsAnswerOf, IsPlay, config_in}
use Rattle.session_runs.specs.Three.{LinesStand}
use Rattle.session_runs.specs.Following.{Follows, taker_answer}

abbrev pub begun_follows : ℕ → Follows
begun_follows now =
    record {
      streams = record { followed = None; former = None; tried = None };
      lines = begun_lines now;
    }

pub record FollowsStand (f : Following) (g : Follows) : Type 0 where
  pub streams : f.streams ≡ g.streams
  pub lines : LinesStand f.runs g.lines

-- the run that takes a packet, and its answer
abbrev pub AreTaken : Settings → Taker → Option Run → Packet → List ℕ → ℕ → Follows → Option (Run × Arrived) → Type 0
AreTaken s taker None packet bytes now f taken = taken ≡ None
AreTaken s taker (Some run) packet bytes now f taken =
    (answer : Arrived) × (taken ≡ Some (run, answer))
    × IsAnswerOf s.params.clock answer (taker_answer (config_in s) taker run packet bytes now f)

-- the run of which a picture is played, and that
abbrev pub ArePlayed : Config → Follows → Option Run → Option (Run × Played) → Type 0
ArePlayed c f None played = played ≡ None
ArePlayed c f (Some run) played =
    (p : Played) × (played ≡ Some (run, p)) × IsPlay c (line_of run f.lines) p
