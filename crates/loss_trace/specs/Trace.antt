-- A whole trace, and what a reader makes of a text: events, up to the first fault.
use Rattle.std.specs.Prelude.{ℕ, zero, suc, ◌+◌, ◌≤◌, List, [], ◌∷◌, length, Option, Some, None}
use Rattle.loss_trace.specs.declared.event.Event.{Event}
use Rattle.loss_trace.specs.declared.fault.TraceFault.{TraceFault}
use Rattle.loss_trace.specs.declared.fault.TraceFault.TheVariants.{BadLine, TooMany}
use Rattle.loss_trace.specs.Line.{IsLine}
use Rattle.loss_trace.specs.Lines.{IsText, first_line, later_lines}
use Rattle.loss_trace.specs.Reading.{event_in}

-- lines that say these events, each one
abbrev pub Say : List Event → List (List ℕ) → Type 0
Say [] [] = Unit {0}
Say [] (line ∷ lines) = ⊥
Say (event ∷ events) [] = ⊥
Say (event ∷ events) (line ∷ lines) = IsLine event line × Say events lines

-- a text whose lines say these events; 16,777,216 lines at most
pub record IsTrace (text : List ℕ) (events : List Event) : Type 0 where
  pub lines : List (List ℕ)
  pub spelled : IsText text lines
  pub says : Say events lines
  pub few : length lines ≤ 16777216

-- a line that says nothing
abbrev pub IsBad : List ℕ → Type 0
IsBad line = (event : Event) → IsLine event line → ⊥

-- an event, and those after it
abbrev pub events_from : Option Event → List Event → List Event
events_from None more = []
events_from (Some event) more = event ∷ more

abbrev pub fault_from : Option Event → ℕ → Option TraceFault → Option TraceFault
fault_from None line more = Some (BadLine line)
fault_from (Some event) line more = more

-- the events of a text of which this many lines may still come, up to the first fault
unfoldable pub events_of : ℕ → List ℕ → List Event
events_of zero text = []
events_of (suc n) [] = []
events_of (suc n) (b ∷ text) = events_from (event_in (first_line (b ∷ text))) (events_of n (later_lines (b ∷ text)))

-- the first fault, where the lines are numbered from this one on
unfoldable pub first_trace_fault : ℕ → ℕ → List ℕ → Option TraceFault
first_trace_fault n line [] = None
first_trace_fault zero line (b ∷ text) = Some (TooMany line)
first_trace_fault (suc n) line (b ∷ text) =
    fault_from (event_in (first_line (b ∷ text))) line (first_trace_fault n (line + 1) (later_lines (b ∷ text)))

-- the events of a trace, and its first fault
unfoldable pub trace_events : List ℕ → List Event
trace_events text = events_of 16777216 text

unfoldable pub trace_fault : List ℕ → Option TraceFault
trace_fault text = first_trace_fault 16777216 1 text
