-- Each turn of the trace takes its line, and so bytes that hold no whole line hold no turn.
use Rattle.std.proofs.Common.{◌≡◌, ℕ, ◌+◌, ◌≤◌, Bool, true, false, List, [], ◌∷◌, take, Option, Some, None, Result, Ok, Err, refl, arith}
use Rattle.std.specs.Prelude.{nat_lt, if◌then◌else◌}
use Rattle.h263_outside.specs.declared.desk.Role.{Role}
use Rattle.h263_outside.specs.declared.desk.Role.TheVariants.{Events}
use Rattle.y4m.specs.declared.fault.Y4mFault.{Y4mFault}
use Rattle.y4m.specs.Frame.{frame_size, next_frame}
use Rattle.loss_trace.specs.declared.event.Event.{Event as Line}
use Rattle.loss_trace.specs.declared.event.Event.TheVariants as says
use Rattle.loss_trace.specs.declared.fault.TraceFault.TheVariants.{TooMany}
use Rattle.h263_outside.specs.Lines.{NoNewline}
use Rattle.loss_trace.specs.Lines.{first_line}
use Rattle.call_report.specs.declared.status.Status.{Status}
use Rattle.desk_program.specs.Run.{Step}
use Rattle.desk_program.specs.Run.Step.{Ends}
use Rattle.desk_program.specs.Ends.{IsPart, step_turns}
use Rattle.desk_program.specs.Texts.{of}
use Rattle.call_model.specs.IdealCall.{Event, Send, Deliver, Play}
use Rattle.call_model.specs.Refusals.{Refusal}
use Rattle.call_command.specs.Call.{bad_line, line_size, unless_refused}
use Rattle.call_command.specs.Laws.{LineLaws, CoversLine}
use Rattle.duplex_call.specs.declared.line.Party.{Party}
use Rattle.duplex_call.specs.Lines.{party_event}
use Rattle.duplex_command.specs.Duplex.{DuplexState, party_capture_step, party_captured_step, party_event_step, lettered_step, pictures_role, video_place_of, party_refusal, refused_party_video, duplex_trace_step, video_of}

abbrev IsLineTurn : List ℕ → Step DuplexState → Type 0
IsLineTurn trace step = CoversLine trace (step_turns step)

same_size : (n : ℕ) → n ≤ n
same_size n = omega arith

more_size : (n m : ℕ) → n ≤ n + m
more_size n m = omega arith

module _ (s : DuplexState) (trace : List ℕ) where
  turn_unless : (e : Event) (o : Option Refusal) (step : Step DuplexState) → IsLineTurn trace step
      → IsLineTurn trace (unless_refused (s.lines + 1) trace e o step)
  turn_unless e None step is = is
  turn_unless e (Some r) step is = tt

module _ (video pictures : Role) (refuses : Y4mFault → Status) (x : Party) (s : DuplexState) (trace : List ℕ) where
  turn_captured : (size : ℕ) (r : Result (List ℕ) Y4mFault)
      → IsLineTurn trace (party_captured_step video pictures refuses x s trace size r)
  turn_captured size (Ok planes) = (refl, more_size (line_size trace) (of video size Events))
  turn_captured size (Err fault) = tt

  turn_capture : (rest : List ℕ) → IsLineTurn trace (party_capture_step video pictures refuses x s trace rest)
  turn_capture [] = tt
  turn_capture (b ∷ rest) = turn_captured (frame_size (s.params x).format (b ∷ rest))
      (next_frame (video_place_of x s).more (s.params x).format (video_place_of x s).at (b ∷ rest))

  turn_event : (inputs : Role → List ℕ) (line : Line)
      → IsLineTurn trace (party_event_step video pictures refuses x s trace inputs line)
  turn_event inputs says.Nothing = (refl, same_size (line_size trace))
  turn_event inputs says.Send = turn_unless s trace Send (party_refusal x s Send) _ (turn_capture (inputs video))
  turn_event inputs (says.Packet n j) = turn_unless s trace (Deliver n j) (party_refusal x s (Deliver n j)) _ (
    refl,
    same_size (line_size trace),
  )
  turn_event inputs (says.All n) = turn_unless s trace (Deliver n 0) (party_refusal x s (Deliver n 0)) _ (
    refl,
    same_size (line_size trace),
  )
  turn_event inputs (says.Back k) = tt
  turn_event inputs says.Play = turn_unless s trace Play (party_refusal x s Play) _ (refl, same_size (line_size trace))

module _ (s : DuplexState) (inputs : Role → List ℕ) where
  turn_line : (o : Option (Option (Party × Line))) → IsLineTurn (inputs Events) (lettered_step s inputs o)
  turn_line None = tt
  turn_line (Some None) = (refl, same_size (line_size (inputs Events)))
  turn_line (Some (Some said)) = turn_event (video_of said.0) (pictures_role said.0) (refused_party_video said.0) said.0
      s
      (inputs Events) inputs said.1

  turn_choice : (b : Bool) (o : Option (Option (Party × Line)))
      → IsLineTurn (inputs Events) (if b then lettered_step s inputs o else Ends (bad_line (TooMany (s.lines + 1))))
  turn_choice true o = turn_line o
  turn_choice false o = tt

  turn_trace : (trace : List ℕ) → trace ≡ inputs Events → IsLineTurn (inputs Events) (duplex_trace_step s inputs trace)
  turn_trace [] is = tt
  turn_trace (b ∷ trace) is = turn_choice (nat_lt s.lines 16777216) (party_event (first_line (b ∷ trace)))

pub trace_part : LineLaws → (s : DuplexState) (inputs : Role → List ℕ) (k : ℕ) → NoNewline (take k (inputs Events))
    → IsPart (step_turns (duplex_trace_step s inputs (inputs Events))) (of Events k)
trace_part laws s inputs k free = laws.line_part (inputs Events) k (step_turns (duplex_trace_step s inputs
    (inputs Events)))
    free (turn_trace s inputs (inputs Events) refl)
