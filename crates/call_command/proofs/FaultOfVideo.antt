-- A video that a call refuses has that fault.
use Rattle.std.proofs.Common.{◌≡◌, ℕ, zero, suc, ◌+◌, ◌-◌, Bool, true, false, List, [], ◌∷◌, drop, Option, Some, None, Result, Ok, Err, refl, sym, ap, ◌∙◌, subst, arith, nat_lt, if◌then◌else◌}
use Rattle.h263_outside.specs.declared.desk.Role.{Role}
use Rattle.h263_outside.specs.declared.desk.Role.TheVariants.{Video, Events}
use Rattle.h263_types.specs.declared.format.Format.{Format}
use Rattle.y4m.specs.declared.fault.Y4mFault.{Y4mFault}
use Rattle.y4m.specs.Frame.{next_frame, frame_size}
use Rattle.y4m.specs.Head.{head_of, head_size}
use Rattle.y4m.specs.Laws.{FrameLaws}
use Rattle.y4m.specs.Video.{first_video_fault, fault_after_head, video_fault}
use Rattle.loss_trace.specs.declared.event.Event.{Event as Line}
use Rattle.loss_trace.specs.declared.event.Event.TheVariants as says
use Rattle.loss_trace.specs.Lines.{first_line}
use Rattle.loss_trace.specs.Reading.{event_in}
use Rattle.call_report.specs.declared.status.Status.TheVariants.{VideoRefused}
use Rattle.call_model.specs.IdealCall.{Event, Send, Deliver, Play, Back}
use Rattle.call_model.specs.Refusals.{Refusal}
use Rattle.desk_program.specs.Run.{Run, Step, left_after, follow, run_from, machine_run, silence}
use Rattle.desk_program.specs.Texts.{of, and_of}
use Rattle.call_command.specs.declared.terms.Terms.{Terms}
use Rattle.call_command.specs.Call.{CallState, by_call, call_begin, call_step, capture_step, captured_step, call_at_start, frame_step, head_step, line_size, line_step, most_turns, refusal_at, trace_step, unless_refused, video_step, with_format}

refused_is : (a b : Y4mFault) → VideoRefused a ≡ VideoRefused b → a ≡ b
refused_is a b is = cc is

module _ (frame_laws : FrameLaws) (fault : Y4mFault) where
  some_left : (m at : ℕ) (f : Format) (rest planes : List ℕ) → next_frame m f at rest ≡ Ok planes → m - 1 + 1 ≡ m
  some_left zero at f rest planes is = absurd (cc is)
  some_left (suc m) at f rest planes is = omega arith

  module _ (s : CallState) (inputs : Role → List ℕ) (rest : CallState → (Role → ℕ) → Run)
      (more : (next : CallState) (taken : Role → ℕ) → (rest next taken).last.status ≡ VideoRefused fault
      → first_video_fault next.params.format next.more next.at (left_after inputs taken Video) ≡ Some fault) where
    abbrev Refuses : Step CallState → Type 0
    Refuses step = (follow step rest).last.status ≡ VideoRefused fault

    -- the fault stands after the first frame
    after_it : (b : ℕ) (v planes : List ℕ) → inputs Video ≡ b ∷ v → next_frame s.more s.params.format s.at (b ∷ v)
        ≡ Ok planes
        → let size = frame_size s.params.format (b ∷ v) in
        first_video_fault s.params.format (s.more - 1) (s.at + size) (drop size (inputs Video)) ≡ Some fault
        → first_video_fault s.params.format s.more s.at (b ∷ v) ≡ Some fault
    after_it b v planes video is later =
        let f = s.params.format in
        let size = frame_size f (b ∷ v) in
        let e = frame_laws.next f s.more (s.more - 1) s.at (b ∷ v) planes (some_left s.more s.at f (b ∷ v) planes is)
        (omega arith) is in
        e.fault ∙ sym (λ i. first_video_fault f (s.more - 1) (s.at + size) (drop size (video i))) ∙ later

    at_fault : (b : ℕ) (v : List ℕ) (broken : Y4mFault) → next_frame s.more s.params.format s.at (b ∷ v) ≡ Err broken
        → VideoRefused broken ≡ VideoRefused fault
        → first_video_fault s.params.format s.more s.at (b ∷ v) ≡ Some fault
    at_fault b v broken is ends =
        (frame_laws.stops s.params.format s.more s.at (b ∷ v) broken (omega arith) is).1
        ∙ ap (λ (x : Y4mFault). Some x) (refused_is broken fault ends)

    -- ---- over the plain trace

    at_frame : (b : ℕ) (v : List ℕ) → inputs Video ≡ b ∷ v → (r : Result (List ℕ) Y4mFault)
        → next_frame s.more s.params.format s.at (b ∷ v) ≡ r
        → Refuses (frame_step by_call s (b ∷ v) r) → first_video_fault s.params.format s.more s.at (b ∷ v) ≡ Some fault
    at_frame b v video (Ok planes) is ends =
        after_it b v planes video is (more _ (of Video (frame_size s.params.format (b ∷ v))) ends)
    at_frame b v video (Err broken) is ends = at_fault b v broken is ends

    at_video : (video : List ℕ) → inputs Video ≡ video → Refuses (video_step by_call s video)
        → first_video_fault s.params.format s.more s.at video ≡ Some fault
    at_video [] is ends = absurd (cc ends)
    at_video (b ∷ v) is ends = at_frame b v is (next_frame s.more s.params.format s.at (b ∷ v)) refl ends

    -- ---- over a recorded trace

    module _ (trace : List ℕ) where
      at_captured : (b : ℕ) (v : List ℕ) → inputs Video ≡ b ∷ v → (r : Result (List ℕ) Y4mFault)
          → next_frame s.more s.params.format s.at (b ∷ v) ≡ r
          → Refuses (captured_step s trace (frame_size s.params.format (b ∷ v)) r)
          → first_video_fault s.params.format s.more s.at (b ∷ v) ≡ Some fault
      at_captured b v video (Ok planes) is ends =
          let f = s.params.format in
          let size = frame_size f (b ∷ v) in
          let taken : 0 + size ≡ size = omega arith in
          after_it b v planes video is
          (subst (λ (k : ℕ). first_video_fault f (s.more - 1) (s.at + size) (drop k (inputs Video)) ≡ Some fault) taken
          (more _ (and_of (of Events (line_size trace)) (of Video size)) ends))
      at_captured b v video (Err broken) is ends = at_fault b v broken is ends

      at_capture : (video : List ℕ) → inputs Video ≡ video → Refuses (capture_step s trace video)
          → first_video_fault s.params.format s.more s.at video ≡ Some fault
      at_capture [] is ends = absurd (cc ends)
      at_capture (b ∷ v) is ends = at_captured b v is (next_frame s.more s.params.format s.at (b ∷ v)) refl ends

      -- an event that may be refused
      at_unless : (e : Event) (o : Option Refusal) (step : Step CallState)
          → (Refuses step → first_video_fault s.params.format s.more s.at (inputs Video) ≡ Some fault)
          → Refuses (unless_refused (s.lines + 1) trace e o step)
          → first_video_fault s.params.format s.more s.at (inputs Video)
          ≡ Some fault
      at_unless e None step later ends = later ends
      at_unless e (Some refusal) step later ends = absurd (cc ends)

      at_line : (o : Option Line) → Refuses (line_step by_call s inputs trace o)
          → first_video_fault s.params.format s.more s.at (inputs Video) ≡ Some fault
      at_line None ends = absurd (cc ends)
      at_line (Some says.Nothing) ends = more _ (of Events (line_size trace)) ends
      at_line (Some says.Send) ends = at_unless Send (refusal_at by_call s Send) _ (at_capture (inputs Video) refl) ends
      at_line (Some (says.Packet n j)) ends =
          at_unless (Deliver n j) (refusal_at by_call s (Deliver n j)) _ (more _ (of Events (line_size trace))) ends
      at_line (Some (says.All n)) ends =
          at_unless (Deliver n 0) (refusal_at by_call s (Deliver n 0)) _ (more _ (of Events (line_size trace))) ends
      at_line (Some (says.Back k)) ends =
          at_unless (Back k) (refusal_at by_call s (Back k)) _ (more _ (of Events (line_size trace))) ends
      at_line (Some says.Play) ends = at_unless Play (refusal_at by_call s Play) _
          (more _ (of Events (line_size trace))) ends

    at_trace : (trace : List ℕ) → Refuses (trace_step by_call s inputs trace)
        → first_video_fault s.params.format s.more s.at (inputs Video) ≡ Some fault
    at_trace [] ends = absurd (cc ends)
    at_trace (b ∷ trace) ends = within (nat_lt s.lines 16777216) refl ends
      where
        within : (t : Bool) → nat_lt s.lines 16777216 ≡ t → Refuses (trace_step by_call s inputs (b ∷ trace))
            → first_video_fault s.params.format s.more s.at (inputs Video) ≡ Some fault
        within true is ends = at_line (b ∷ trace) (event_in (first_line (b ∷ trace))) (rw is at ends)
        within false is ends = absurd (cc (rw is at ends))

    at_turn : (plain : Bool)
        → Refuses (if plain then video_step by_call s (inputs Video) else trace_step by_call s inputs (inputs Events))
        → first_video_fault s.params.format s.more s.at (inputs Video) ≡ Some fault
    at_turn true ends = at_video (inputs Video) refl ends
    at_turn false ends = at_trace (inputs Events) ends

  run_refused : (n : ℕ) (s : CallState) (inputs : Role → List ℕ) → (machine_run call_step n s inputs).last.status
      ≡ VideoRefused fault
      → first_video_fault s.params.format s.more s.at (inputs Video) ≡ Some fault
  unfolding machine_run
  run_refused zero s inputs ends = at_turn s inputs (λ next taken. silence) (λ next taken is. absurd (cc is)) s.plain
      ends
  run_refused (suc n) s inputs ends =
      at_turn s inputs (λ next taken. machine_run call_step n next (left_after inputs taken))
      (λ next taken is. run_refused n next (left_after inputs taken) is) s.plain ends

  pub video_refused : (t : Terms) (inputs : Role → List ℕ)
      → (run_from (call_begin t inputs) call_step (most_turns t.plain) inputs).last.status ≡ VideoRefused fault
      → video_fault (inputs Video) ≡ Some fault
  unfolding video_fault
  video_refused t inputs ends = by_head (head_of (inputs Video)) refl ends
    where
      by_head : (r : Result Format Y4mFault) → head_of (inputs Video) ≡ r
          → (follow (head_step t (inputs Video) r) (λ next taken. machine_run call_step (most_turns t.plain) next
          (left_after inputs taken))).last.status ≡ VideoRefused fault
          → fault_after_head r (head_size (inputs Video)) (drop (head_size (inputs Video)) (inputs Video)) ≡ Some fault
      by_head (Ok f) is ends =
          run_refused (most_turns t.plain) (call_at_start (with_format t f) [] (head_size (inputs Video)))
          (left_after inputs (of Video (head_size (inputs Video)))) ends
      by_head (Err broken) is ends = ap (λ (x : Y4mFault). Some x) (refused_is broken fault ends)
