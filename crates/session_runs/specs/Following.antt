-- The streams that have a run, and what came of them.
use Rattle.std.specs.Prelude.{ℕ, min, Bool, true, false, List, Option, Some, None, is_some, if◌then◌else◌}
use Rattle.stream_choice.specs.declared.streams.Streams.{Streams}
use Rattle.stream_choice.specs.declared.streams.Run.{Run}
use Rattle.stream_choice.specs.declared.streams.Run.TheVariants as runs
use Rattle.stream_choice.specs.declared.streams.Taker.{Taker}
use Rattle.stream_choice.specs.Choice as choice
use Rattle.stream_numbers.specs.declared.packet.Packet.{Packet}
use Rattle.packet_gaps.specs.declared.gaps.Nack.{Nack}
use Rattle.packet_gaps.specs.declared.moment.Moment.{Moment}
use Rattle.session_runs.specs.Histories.{Answer, Config, after_nack, history_after_packet, history_after_play, answer_in, due_in, answer_completes, is_due_in, moment_in, nack_at}
use Rattle.session_runs.specs.Lines.{Lines, line_of, made_ready, taker_run, turned, lines_with}

pub record Follows : Type 0 where
  pub streams : Streams
  pub lines : Lines

-- ---- packets

-- the streams once a packet of this SSRC came
abbrev pub source_noted : ℕ → ℕ → Follows → Follows
source_noted source now f =
    record { streams = choice.streams_after_packet f.streams source now; lines = f.lines }

-- With a complete picture its stream may come to be followed, and the runs go with their streams.
abbrev pub completed_if : Bool → Run → ℕ → Follows → Follows
completed_if false run now f = f
completed_if true run now f =
    record {
      streams = choice.after_complete f.streams run now;
      lines = turned (choice.turn_of f.streams run now) f.lines;
    }

abbrev pub after_heard : Config → Run → Packet → List ℕ → ℕ → Follows → Follows
after_heard c run packet bytes now f =
    completed_if (answer_completes (answer_in c packet bytes now (line_of run f.lines))) run now (record {
      streams = f.streams;
      lines = lines_with run (history_after_packet c packet bytes now (line_of run f.lines)) f.lines;
    })

abbrev pub after_run : Config → Option Run → Packet → List ℕ → ℕ → Follows → Follows
after_run c None packet bytes now f = f
after_run c (Some run) packet bytes now f = after_heard c run packet bytes now f

abbrev pub made_ready_for : Config → Taker → ℕ → ℕ → Follows → Follows
made_ready_for c taker reference now f =
    record { streams = f.streams; lines = made_ready c taker reference now f.lines }

-- after a packet with this taker
abbrev pub after_taker : Config → Taker → Packet → List ℕ → ℕ → Follows → Follows
after_taker c taker packet bytes now f =
    after_run c (taker_run taker) packet bytes now (made_ready_for c taker packet.reference now f)

-- the answer of a run that takes it
abbrev pub taker_answer : Config → Taker → Run → Packet → List ℕ → ℕ → Follows → Answer
taker_answer c taker run packet bytes now f =
    answer_in c packet bytes now (line_of run (made_ready c taker packet.reference now f.lines))

-- ---- plays

-- when the next picture of a run is due, where it has a stream
abbrev pub due_of_run : Config → Run → Follows → Option ℕ
due_of_run c run f =
    if is_some (choice.run_source f.streams run) then due_in c (line_of run f.lines) else None

abbrev pub earlier : Option ℕ → Option ℕ → Option ℕ
earlier None b = b
earlier (Some a) None = Some a
earlier (Some a) (Some b) = Some (min a b)

-- when something is due next, as far as that is known
abbrev pub due_next : Config → Follows → Option ℕ
due_next c f =
    earlier (due_of_run c runs.Followed f)
    (earlier (due_of_run c runs.Former f) (due_of_run c runs.Tried f))

-- a picture of this run is due by now
abbrev pub is_run_due : Config → Run → ℕ → Follows → Bool
is_run_due c run now f =
    if is_some (choice.run_source f.streams run) then is_due_in c now (line_of run f.lines) else false

-- the run of which one is: that of the stream that is followed comes first
abbrev pub run_due : Config → ℕ → Follows → Option Run
run_due c now f =
    if is_run_due c runs.Followed now f then Some runs.Followed
    else if is_run_due c runs.Former now f then Some runs.Former
    else if is_run_due c runs.Tried now f then Some runs.Tried
    else None

abbrev pub after_play_of : Config → Option Run → ℕ → Follows → Follows
after_play_of c None now f = f
after_play_of c (Some run) now f =
    record {
      streams = f.streams;
      lines = lines_with run (history_after_play c now (line_of run f.lines)) f.lines;
    }

-- ---- asking again

-- Packets are asked for of the stream that is followed alone.
abbrev pub moment_of : Config → ℕ → ℕ → Follows → Option Moment
moment_of c round_trip now f =
    if is_some (choice.run_source f.streams runs.Followed)
    then moment_in c round_trip now f.lines.followed
    else None

abbrev pub nack_of_followed : Config → ℕ → ℕ → Follows → Option Nack
nack_of_followed c round_trip now f = nack_at (moment_of c round_trip now f) f.lines.followed

abbrev pub after_asked : Config → ℕ → ℕ → Follows → Follows
after_asked c round_trip now f =
    record {
      streams = f.streams;
      lines = lines_with runs.Followed (after_nack (moment_of c round_trip now f) f.lines.followed) f.lines;
    }

-- ---- ends

-- the stream with this SSRC has ended
abbrev pub after_bye : ℕ → ℕ → Follows → Follows
after_bye source now f =
    record { streams = choice.after_end f.streams source now; lines = f.lines }
