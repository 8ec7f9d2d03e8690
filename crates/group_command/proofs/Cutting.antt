-- Each turn of the trace takes its line, and so bytes that hold no whole line hold no turn.
use Rattle.std.proofs.Common.{◌≡◌, ℕ, ◌+◌, ◌≤◌, Bool, true, false, List, [], ◌∷◌, take, Option, Some, None, Result, Ok, Err, refl, arith}
use Rattle.std.specs.Prelude.{length, nat_lt, if◌then◌else◌}
use Rattle.h263_outside.specs.declared.desk.Role.{Role}
use Rattle.h263_outside.specs.declared.desk.Role.TheVariants.{Video, Events}
use Rattle.y4m.specs.declared.fault.Y4mFault.{Y4mFault}
use Rattle.y4m.specs.Frame.{frame_size, next_frame}
use Rattle.loss_trace.specs.declared.fault.TraceFault.TheVariants.{TooMany}
use Rattle.h263_outside.specs.Lines.{NoNewline}
use Rattle.loss_trace.specs.Lines.{first_line}
use Rattle.desk_program.specs.Run.{Step}
use Rattle.desk_program.specs.Run.Step.{Ends}
use Rattle.desk_program.specs.Ends.{IsPart, step_turns}
use Rattle.desk_program.specs.Texts.{of}
use Rattle.call_model.specs.IdealCall.{Event, Send}
use Rattle.call_model.specs.Refusals.{Refusal}
use Rattle.call_command.specs.Call.{bad_line, line_size, unless_refused}
use Rattle.call_command.specs.Laws.{LineLaws, CoversLine}
use Rattle.group_call.specs.Refused.{view_refusal}
use Rattle.group_command.specs.declared.line.GroupLine.{GroupLine}
use Rattle.group_command.specs.declared.line.GroupLine.TheVariants.{Quiet, ForAll, Of}
use Rattle.group_command.specs.Lines.{group_line}
use Rattle.group_command.specs.Group.{GroupState, group_capture_step, group_captured_step, event_of, first_behind, group_line_step, group_trace_step, view_in}

abbrev IsLineTurn : List ℕ → Step GroupState → Type 0
IsLineTurn trace step = CoversLine trace (step_turns step)

same_size : (n : ℕ) → n ≤ n
same_size n = omega arith

more_size : (n m : ℕ) → n ≤ n + m
more_size n m = omega arith

module _ (s : GroupState) (trace : List ℕ) where
  turn_unless : (e : Event) (o : Option Refusal) (step : Step GroupState) → IsLineTurn trace step
      → IsLineTurn trace (unless_refused (s.lines + 1) trace e o step)
  turn_unless e None step is = is
  turn_unless e (Some r) step is = tt

  turn_captured : (size : ℕ) (r : Result (List ℕ) Y4mFault) → IsLineTurn trace (group_captured_step s trace size r)
  turn_captured size (Ok planes) = (refl, more_size (line_size trace) (of Video size Events))
  turn_captured size (Err fault) = tt

  turn_capture : (rest : List ℕ) → IsLineTurn trace (group_capture_step s trace rest)
  turn_capture [] = tt
  turn_capture (b ∷ rest) = turn_captured (frame_size s.params.format (b ∷ rest))
      (next_frame s.more s.params.format s.at (b ∷ rest))

module _ (s : GroupState) (inputs : Role → List ℕ) where
  turn_line : (o : Option GroupLine) → IsLineTurn (inputs Events) (group_line_step s inputs o)
  turn_line None = tt
  turn_line (Some Quiet) = (refl, same_size (line_size (inputs Events)))
  turn_line (Some ForAll) = turn_unless s (inputs Events) Send (first_behind s.params s.run s.views) _
      (turn_capture s (inputs Events) (inputs Video))
  turn_line (Some (Of k e)) =
      turn_unless s (inputs Events) (event_of e) (view_refusal s.params s.run (view_in s.views k) (event_of e)) _ (
        refl,
        same_size (line_size (inputs Events)),
      )

  turn_choice : (b : Bool) (o : Option GroupLine)
      → IsLineTurn (inputs Events) (if b then group_line_step s inputs o else Ends (bad_line (TooMany (s.lines + 1))))
  turn_choice true o = turn_line o
  turn_choice false o = tt

  turn_trace : (trace : List ℕ) → trace ≡ inputs Events → IsLineTurn (inputs Events) (group_trace_step s inputs trace)
  turn_trace [] is = tt
  turn_trace (b ∷ trace) is = turn_choice (nat_lt s.lines 16777216)
      (group_line (length s.views) (first_line (b ∷ trace)))

pub trace_part : LineLaws → (s : GroupState) (inputs : Role → List ℕ) (k : ℕ) → NoNewline (take k (inputs Events))
    → IsPart (step_turns (group_trace_step s inputs (inputs Events))) (of Events k)
trace_part laws s inputs k free = laws.line_part (inputs Events) k (step_turns (group_trace_step s inputs
    (inputs Events)))
    free (turn_trace s inputs (inputs Events) refl)
