-- Each turn of the trace takes its line, and so bytes that hold no whole line hold no turn.
use Rattle.std.proofs.Common.{ℕ, ◌+◌, ◌≤◌, Bool, true, false, List, [], ◌∷◌, take, Option, Some, None, Result, Ok, Err, refl, arith}
use Rattle.std.specs.Prelude.{nat_lt, if◌then◌else◌}
use Rattle.h263_outside.specs.declared.desk.Role.{Role}
use Rattle.h263_outside.specs.declared.desk.Role.TheVariants.{Video, Events}
use Rattle.y4m.specs.declared.fault.Y4mFault.{Y4mFault}
use Rattle.y4m.specs.Frame.{next_frame}
use Rattle.loss_trace.specs.declared.event.Event.{Event as Line}
use Rattle.loss_trace.specs.declared.event.Event.TheVariants as says
use Rattle.loss_trace.specs.declared.fault.TraceFault.TheVariants.{TooMany}
use Rattle.h263_outside.specs.Lines.{NoNewline}
use Rattle.loss_trace.specs.Lines.{first_line}
use Rattle.loss_trace.specs.Reading.{event_in}
use Rattle.desk_program.specs.Run.{Step}
use Rattle.desk_program.specs.Run.Step.{Ends}
use Rattle.desk_program.specs.Ends.{IsPart, step_turns}
use Rattle.desk_program.specs.Texts.{of}
use Rattle.call_model.specs.IdealCall.{Event, Send, Deliver, Play, Back}
use Rattle.call_model.specs.Refusals.{Refusal}
use Rattle.call_command.specs.Call.{CallState, bad_line, by_ends, capture_step, captured_step, event_step, line_size, line_step, refusal_at, trace_step, unless_refused}
use Rattle.call_command.specs.Laws.{CoversLine}
use Rattle.call_command.proofs.Lines.{line_part}

abbrev IsLineTurn : List ℕ → Step CallState → Type 0
IsLineTurn trace step = CoversLine trace (step_turns step)

module _ (s : CallState) (inputs : Role → List ℕ) (trace : List ℕ) where
  same_size : (n : ℕ) → n ≤ n
  same_size n = omega arith

  more_size : (n m : ℕ) → n ≤ n + m
  more_size n m = omega arith

  turn_unless : (e : Event) (o : Option Refusal) (step : Step CallState) → IsLineTurn trace step
      → IsLineTurn trace (unless_refused (s.lines + 1) trace e o step)
  turn_unless e None step is = is
  turn_unless e (Some r) step is = tt

  turn_captured : (size : ℕ) (r : Result (List ℕ) Y4mFault) → IsLineTurn trace (captured_step s trace size r)
  turn_captured size (Ok planes) = (refl, more_size (line_size trace) 0)
  turn_captured size (Err fault) = tt

  turn_capture : (video : List ℕ) → IsLineTurn trace (capture_step s trace video)
  turn_capture [] = tt
  turn_capture (b ∷ video) = turn_captured _ (next_frame s.more s.params.format s.at (b ∷ video))

  turn_event : (line : Line) → IsLineTurn trace (event_step by_ends s inputs trace line)
  turn_event says.Nothing = (refl, same_size (line_size trace))
  turn_event says.Send = turn_unless Send (refusal_at by_ends s Send) _ (turn_capture (inputs Video))
  turn_event (says.Packet n j) = turn_unless (Deliver n j) (refusal_at by_ends s (Deliver n j)) _ (
    refl,
    same_size (line_size trace),
  )
  turn_event (says.All n) = turn_unless (Deliver n 0) (refusal_at by_ends s (Deliver n 0)) _ (
    refl,
    same_size (line_size trace),
  )
  turn_event (says.Back k) = turn_unless (Back k) (refusal_at by_ends s (Back k)) _ (refl, same_size (line_size trace))
  turn_event says.Play = turn_unless Play (refusal_at by_ends s Play) _ (refl, same_size (line_size trace))

  turn_line : (o : Option Line) → IsLineTurn trace (line_step by_ends s inputs trace o)
  turn_line None = tt
  turn_line (Some line) = turn_event line

  turn_choice : (b : Bool) (o : Option Line)
      → IsLineTurn trace (if b then line_step by_ends s inputs trace o else Ends (bad_line (TooMany (s.lines + 1))))
  turn_choice true o = turn_line o
  turn_choice false o = tt

turn_trace : (s : CallState) (inputs : Role → List ℕ) (trace : List ℕ)
    → IsLineTurn trace (trace_step by_ends s inputs trace)
turn_trace s inputs [] = tt
turn_trace s inputs (b ∷ trace) = turn_choice s inputs (b ∷ trace) (nat_lt s.lines 16777216)
    (event_in (first_line (b ∷ trace)))

pub trace_part : (s : CallState) (inputs : Role → List ℕ) (trace : List ℕ) (k : ℕ) → NoNewline (take k trace)
    → IsPart (step_turns (trace_step by_ends s inputs trace)) (of Events k)
trace_part s inputs trace k free = line_part trace k (step_turns (trace_step by_ends s inputs trace)) free
    (turn_trace s inputs trace)
