-- A call has one video, so none is refused as a second one.
use Rattle.std.proofs.Common.{◌+◌, ◌≡◌, ℕ, zero, suc, Bool, true, false, List, [], ◌∷◌, Option, Some, None, Result, Ok, Err, refl, nat_lt, if◌then◌else◌}
use Rattle.h263_outside.specs.declared.desk.Role.{Role}
use Rattle.h263_outside.specs.declared.desk.Role.TheVariants.{Video, Events}
use Rattle.h263_types.specs.declared.format.Format.{Format}
use Rattle.y4m.specs.declared.fault.Y4mFault.{Y4mFault}
use Rattle.y4m.specs.Frame.{next_frame, frame_size}
use Rattle.y4m.specs.Head.{head_of}
use Rattle.loss_trace.specs.declared.event.Event.{Event as Line}
use Rattle.loss_trace.specs.declared.event.Event.TheVariants as says
use Rattle.loss_trace.specs.Lines.{first_line}
use Rattle.loss_trace.specs.Reading.{event_in}
use Rattle.call_report.specs.declared.status.Status.TheVariants.{Video2Refused}
use Rattle.call_model.specs.IdealCall.{Event, Send, Deliver, Play, Back}
use Rattle.call_model.specs.Refusals.{Refusal}
use Rattle.desk_program.specs.Run.{Run, Step, left_after, follow, run_from, machine_run, silence}
use Rattle.call_command.specs.declared.terms.Terms.{Terms}
use Rattle.call_command.specs.Call.{CallState, by_call, call_begin, call_step, capture_step, captured_step, frame_step, head_step, line_step, most_turns, refusal_at, trace_step, unless_refused, video_step}

module _ (fault : Y4mFault) where
  module _ (s : CallState) (inputs : Role → List ℕ) (rest : CallState → (Role → ℕ) → Run)
      (more : (next : CallState) (taken : Role → ℕ) → (rest next taken).last.status ≡ Video2Refused fault → ⊥) where
    abbrev Refuses : Step CallState → Type 0
    Refuses step = (follow step rest).last.status ≡ Video2Refused fault

    -- ---- over the plain trace

    at_frame : (video : List ℕ) (r : Result (List ℕ) Y4mFault) → Refuses (frame_step by_call s video r) → ⊥
    at_frame video (Ok planes) ends = more _ _ ends
    at_frame video (Err broken) ends = absurd (cc ends)

    at_video : (video : List ℕ) → Refuses (video_step by_call s video) → ⊥
    at_video [] ends = absurd (cc ends)
    at_video (b ∷ v) ends = at_frame (b ∷ v) (next_frame s.more s.params.format s.at (b ∷ v)) ends

    -- ---- over a recorded trace

    module _ (trace : List ℕ) where
      at_captured : (size : ℕ) (r : Result (List ℕ) Y4mFault) → Refuses (captured_step s trace size r) → ⊥
      at_captured size (Ok planes) ends = more _ _ ends
      at_captured size (Err broken) ends = absurd (cc ends)

      at_capture : (video : List ℕ) → Refuses (capture_step s trace video) → ⊥
      at_capture [] ends = absurd (cc ends)
      at_capture (b ∷ v) ends =
          at_captured (frame_size s.params.format (b ∷ v)) (next_frame s.more s.params.format s.at (b ∷ v)) ends

      at_unless : (e : Event) (o : Option Refusal) (step : Step CallState) → (Refuses step → ⊥)
          → Refuses (unless_refused (s.lines + 1) trace e o step) → ⊥
      at_unless e None step later ends = later ends
      at_unless e (Some refusal) step later ends = absurd (cc ends)

      at_line : (o : Option Line) → Refuses (line_step by_call s inputs trace o) → ⊥
      at_line None ends = absurd (cc ends)
      at_line (Some says.Nothing) ends = more _ _ ends
      at_line (Some says.Send) ends = at_unless Send (refusal_at by_call s Send) _ (at_capture (inputs Video)) ends
      at_line (Some (says.Packet n j)) ends = at_unless (Deliver n j) (refusal_at by_call s (Deliver n j)) _
          (more _ _) ends
      at_line (Some (says.All n)) ends = at_unless (Deliver n 0) (refusal_at by_call s (Deliver n 0)) _ (more _ _) ends
      at_line (Some (says.Back k)) ends = at_unless (Back k) (refusal_at by_call s (Back k)) _ (more _ _) ends
      at_line (Some says.Play) ends = at_unless Play (refusal_at by_call s Play) _ (more _ _) ends

    at_trace : (trace : List ℕ) → Refuses (trace_step by_call s inputs trace) → ⊥
    at_trace [] ends = absurd (cc ends)
    at_trace (b ∷ trace) ends = within (nat_lt s.lines 16777216) refl ends
      where
        within : (t : Bool) → nat_lt s.lines 16777216 ≡ t → Refuses (trace_step by_call s inputs (b ∷ trace)) → ⊥
        within true is ends = at_line (b ∷ trace) (event_in (first_line (b ∷ trace))) (rw is at ends)
        within false is ends = absurd (cc (rw is at ends))

    at_turn : (plain : Bool)
        → Refuses (if plain then video_step by_call s (inputs Video) else trace_step by_call s inputs (inputs Events))
        → ⊥
    at_turn true ends = at_video (inputs Video) ends
    at_turn false ends = at_trace (inputs Events) ends

  run_refuses_none : (n : ℕ) (s : CallState) (inputs : Role → List ℕ) → (machine_run call_step n s inputs).last.status
      ≡ Video2Refused fault → ⊥
  unfolding machine_run
  run_refuses_none zero s inputs ends = at_turn s inputs (λ next taken. silence) (λ next taken is. absurd (cc is))
      s.plain ends
  run_refuses_none (suc n) s inputs ends =
      at_turn s inputs (λ next taken. machine_run call_step n next (left_after inputs taken))
      (λ next taken is. run_refuses_none n next (left_after inputs taken) is) s.plain ends

  pub none_refused : (t : Terms) (inputs : Role → List ℕ)
      → (run_from (call_begin t inputs) call_step (most_turns t.plain) inputs).last.status ≡ Video2Refused fault → ⊥
  none_refused t inputs ends = by_head (head_of (inputs Video)) ends
    where
      by_head : (r : Result Format Y4mFault)
          → (follow (head_step t (inputs Video) r) (λ next taken. machine_run call_step (most_turns t.plain) next
          (left_after inputs taken))).last.status ≡ Video2Refused fault → ⊥
      by_head (Ok f) ends = run_refuses_none (most_turns t.plain) _ _ ends
      by_head (Err broken) ends = absurd (cc ends)
