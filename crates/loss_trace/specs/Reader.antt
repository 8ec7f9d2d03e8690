-- What the reader of a trace says, call by call.
use Rattle.std.specs.Prelude.{ℕ, ◌≡◌, ◌+◌, ◌<◌, not, false, List, [], length, take, drop, Option, Some, None, Result, Ok, Err}
use Rattle.loss_trace.specs.declared.event.Event.{Event}
use Rattle.loss_trace.specs.declared.fault.TraceStop.{TraceStop}
use Rattle.loss_trace.specs.declared.fault.TraceStop.TheVariants.{Read, Bad, TooMany}
use Rattle.loss_trace.specs.declared.reader.Fetched.{Fetched}
use Rattle.loss_trace.specs.Lines.{first_line, is_closed, later_lines, after_long, IsTraceCut}
use Rattle.loss_trace.specs.Input.{IsFirstLine}
use Rattle.loss_trace.specs.Reading.{event_in}
use Rattle.loss_trace.specs.Place.{TracePlace}

-- how a call moves a reader, and which number it gives: that of the next line
abbrev pub MovesTrace : {A : Type 0} → Result (Option (ℕ × A)) TraceStop → TracePlace → TracePlace → Type 0
MovesTrace (Ok (Some line)) old new =
    (old.ended ≡ false) × (old.lines < 16777216) × (line.0 ≡ old.lines + 1) × (new.lines ≡ old.lines + 1)
MovesTrace (Ok None) old new = new ≡ old
MovesTrace (Err Read) old new = (old.ended ≡ false) × (new ≡ old)
MovesTrace (Err (Bad line)) old new = (old.ended ≡ false) × (old.lines < 16777216) × (line ≡ old.lines + 1)
    × (new ≡ old)
MovesTrace (Err (TooMany line)) old new = (old.ended ≡ false) × (old.lines ≡ 16777216) × (line ≡ 16777217) × (new ≡ old)

-- the first line of the rest was read, and nothing after its newline
pub record Passes (rest : List ℕ) (new : TracePlace) (left : Option (List ℕ)) : Type 0 where
  pub some : 0 < length rest
  pub ends : new.ended ≡ not (is_closed rest)
  pub gone : left ≡ Some (later_lines rest)

-- no line is there; after a last line without a newline nothing is read
abbrev pub IsOver : TracePlace → List ℕ → Option (List ℕ) → Type 0
IsOver old rest left = (left ≡ Some rest) × (old.ended ≡ false → rest ≡ [])

-- one byte was read, which begins a line too many
abbrev pub IsPastAll : List ℕ → Option (List ℕ) → Type 0
IsPastAll rest left = (0 < length rest) × (left ≡ Some (drop 1 rest))

-- more bytes than a line may have
abbrev pub IsLong : List ℕ → Option (List ℕ) → Type 0
IsLong rest left = (64 < length (first_line rest)) × (left ≡ Some (after_long rest))

-- what a reader says of the rest of a trace, and what is left of it then
abbrev pub EventGives : Result (Option (ℕ × Event)) TraceStop
    → TracePlace → List ℕ → TracePlace → Option (List ℕ) → Type 0
EventGives (Ok (Some line)) old rest new left = Passes rest new left × (event_in (first_line rest) ≡ Some line.1)
EventGives (Ok None) old rest new left = IsOver old rest left
EventGives (Err Read) old rest new left = IsTraceCut rest left
EventGives (Err (Bad line)) old rest new left = (event_in (first_line rest) ≡ None) × (left ≡ Some (after_long rest))
EventGives (Err (TooMany line)) old rest new left = IsPastAll rest left

-- the same of a reader that gives the bytes of a line, in a buffer of 64 bytes, and its length
abbrev pub BytesGive : Result (Option (ℕ × ℕ)) TraceStop
    → TracePlace → List ℕ → List ℕ → TracePlace → Option (List ℕ) → Type 0
BytesGive (Ok (Some line)) old rest buf new left =
    Passes rest new left × (length (first_line rest) ≡ line.1) × (take line.1 buf ≡ first_line rest)
BytesGive (Ok None) old rest buf new left = IsOver old rest left
BytesGive (Err Read) old rest buf new left = IsTraceCut rest left
BytesGive (Err (Bad line)) old rest buf new left = IsLong rest left
BytesGive (Err (TooMany line)) old rest buf new left = IsPastAll rest left

-- where a reader finds a line, or a fault
abbrev pub FindsLine : Result (Option Fetched) TraceStop → TracePlace → Type 0
FindsLine (Ok (Some line)) reader = (reader.ended ≡ false) × (reader.lines < 16777216)
FindsLine (Ok None) reader = Unit {0}
FindsLine (Err Read) reader = reader.ended ≡ false
FindsLine (Err (Bad line)) reader = (reader.ended ≡ false) × (reader.lines < 16777216) × (line ≡ reader.lines + 1)
FindsLine (Err (TooMany line)) reader = (reader.ended ≡ false) × (reader.lines ≡ 16777216) × (line ≡ 16777217)

-- what it finds
abbrev pub FetchGives : Result (Option Fetched) TraceStop → TracePlace → List ℕ → List ℕ → Option (List ℕ) → Type 0
FetchGives (Ok (Some line)) reader rest buf left = IsFirstLine rest buf line.len left × (is_closed rest ≡ line.closed)
FetchGives (Ok None) reader rest buf left = IsOver reader rest left
FetchGives (Err Read) reader rest buf left = IsTraceCut rest left
FetchGives (Err (Bad line)) reader rest buf left = IsLong rest left
FetchGives (Err (TooMany line)) reader rest buf left = IsPastAll rest left
