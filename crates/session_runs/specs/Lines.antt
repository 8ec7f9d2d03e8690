-- What came of the streams of a session's runs.
use Rattle.std.specs.Prelude.{ℕ, Option, Some, None}
use Rattle.stream_choice.specs.declared.streams.Run.{Run}
use Rattle.stream_choice.specs.declared.streams.Run.TheVariants as runs
use Rattle.stream_choice.specs.declared.streams.Taker.{Taker}
use Rattle.stream_choice.specs.declared.streams.Taker.TheVariants as takers
use Rattle.stream_choice.specs.declared.streams.Turn.{Turn}
use Rattle.stream_choice.specs.declared.streams.Turn.TheVariants as turns
use Rattle.session_runs.specs.Histories.{Config, History, history_begun, ready}

-- of the stream that is followed, of a former one and of one that is tried
pub record Lines : Type 0 where
  pub followed : History
  pub former : History
  pub tried : History

abbrev pub begun_lines : ℕ → Lines
begun_lines now = record { followed = history_begun 0 now; former = history_begun 0 now; tried = history_begun 0 now }

abbrev pub line_of : Run → Lines → History
line_of runs.Followed l = l.followed
line_of runs.Former l = l.former
line_of runs.Tried l = l.tried

abbrev pub lines_with : Run → History → Lines → Lines
lines_with runs.Followed h l = record { followed = h; former = l.former; tried = l.tried }
lines_with runs.Former h l = record { followed = l.followed; former = h; tried = l.tried }
lines_with runs.Tried h l = record { followed = l.followed; former = l.former; tried = h }

-- each run goes with its stream
abbrev pub turned : Turn → Lines → Lines
turned turns.Stays l = l
turned turns.ToFormer l = record { followed = l.former; former = l.followed; tried = l.tried }
turned turns.ToTried l = record { followed = l.tried; former = l.followed; tried = l.former }
turned turns.ToTriedBeside l = record { followed = l.tried; former = l.former; tried = l.followed }

-- the run that takes a packet, if there is one
abbrev pub taker_run : Taker → Option Run
taker_run takers.Followed = Some runs.Followed
taker_run takers.Former = Some runs.Former
taker_run takers.Tried = Some runs.Tried
taker_run takers.Begins = Some runs.Tried
taker_run takers.NoRun = None

-- It begins, or begins anew where that is needed, for a packet with this temporal reference.
abbrev pub made_ready : Config → Taker → ℕ → ℕ → Lines → Lines
made_ready c takers.Followed reference now l =
    record { followed = ready c reference now l.followed; former = l.former; tried = l.tried }
made_ready c takers.Former reference now l =
    record { followed = l.followed; former = ready c reference now l.former; tried = l.tried }
made_ready c takers.Tried reference now l =
    record { followed = l.followed; former = l.former; tried = ready c reference now l.tried }
made_ready c takers.Begins reference now l =
    record { followed = l.followed; former = l.former; tried = history_begun reference now }
made_ready c takers.NoRun reference now l = l
