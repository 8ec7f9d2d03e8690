-- A video that a group's call refuses has that fault, and there is no second one.
use Rattle.std.proofs.Common.{◌≡◌, ℕ, zero, suc, ◌+◌, ◌-◌, Bool, true, false, List, [], ◌∷◌, drop, length, Option, Some, None, Result, Ok, Err, refl, sym, ap, ◌∙◌, subst, arith, nat_lt}
use Rattle.h263_outside.specs.declared.desk.Role.{Role}
use Rattle.h263_outside.specs.declared.desk.Role.TheVariants.{Video, Events}
use Rattle.h263_types.specs.declared.format.Format.{Format}
use Rattle.y4m.specs.declared.fault.Y4mFault.{Y4mFault}
use Rattle.y4m.specs.Frame.{next_frame, frame_size}
use Rattle.y4m.specs.Head.{head_of, head_size}
use Rattle.y4m.specs.Laws.{FrameLaws}
use Rattle.y4m.specs.Video.{first_video_fault, fault_after_head, video_fault}
use Rattle.loss_trace.specs.Lines.{first_line}
use Rattle.call_report.specs.declared.status.Status.TheVariants.{VideoRefused, Video2Refused}
use Rattle.call_model.specs.IdealCall.{Event, Send}
use Rattle.call_model.specs.Refusals.{Refusal}
use Rattle.desk_program.specs.Run.{Run, Step, left_after, follow, machine_run, silence}
use Rattle.desk_program.specs.Texts.{of}
use Rattle.group_call.specs.Refused.{view_refusal}
use Rattle.group_command.specs.declared.line.GroupLine.{GroupLine}
use Rattle.group_command.specs.declared.line.GroupLine.TheVariants.{Quiet, ForAll, Of}
use Rattle.group_command.specs.declared.terms.GroupTerms.{GroupTerms}
use Rattle.group_command.specs.Group.{GroupState, group_capture_step, group_captured_step, event_of, first_behind, group_call_run, group_step, group_head_step, group_line_step, group_trace_step, view_in}
use Rattle.group_command.specs.Lines.{group_line}
use Rattle.call_command.specs.Call.{most_lines, unless_refused}

first_is : (a b : Y4mFault) → VideoRefused a ≡ VideoRefused b → a ≡ b
first_is a b is = cc is

module _ (frame_laws : FrameLaws) (fault : Y4mFault) where
  some_left : (m at : ℕ) (f : Format) (video planes : List ℕ) → next_frame m f at video ≡ Ok planes → m - 1 + 1 ≡ m
  some_left zero at f video planes is = absurd (cc is)
  some_left (suc m) at f video planes is = omega arith

  -- the fault stands after the first frame, or is that of the first frame
  after_it : (f : Format) (more at b : ℕ) (v planes video : List ℕ) → video ≡ b ∷ v → next_frame more f at (b ∷ v)
      ≡ Ok planes
      → first_video_fault f (more - 1) (at + frame_size f (b ∷ v)) (drop (0 + frame_size f (b ∷ v)) video) ≡ Some fault
      → first_video_fault f more at (b ∷ v) ≡ Some fault
  after_it f more at b v planes video same is later =
      let size = frame_size f (b ∷ v) in
      let e = frame_laws.next f more (more - 1) at (b ∷ v) planes (some_left more at f (b ∷ v) planes is)
      (omega arith) is in
      let taken : 0 + size ≡ size = omega arith in
      e.fault ∙ sym (λ i. first_video_fault f (more - 1) (at + size) (drop (taken i) (same i))) ∙ later

  at_fault : (f : Format) (more at b : ℕ) (v : List ℕ) (broken : Y4mFault) → next_frame more f at (b ∷ v) ≡ Err broken
      → broken ≡ fault → first_video_fault f more at (b ∷ v) ≡ Some fault
  at_fault f more at b v broken is same =
      (frame_laws.stops f more at (b ∷ v) broken (omega arith) is).1 ∙ ap (λ (x : Y4mFault). Some x) same

  -- what is left of the video has the fault
  abbrev IsFaulty : GroupState → (Role → List ℕ) → Type 0
  IsFaulty s inputs = first_video_fault s.params.format s.more s.at (inputs Video) ≡ Some fault

  module _ (s : GroupState) (inputs : Role → List ℕ) (rest : GroupState → (Role → ℕ) → Run)
      (later : (next : GroupState) (taken : Role → ℕ) → (rest next taken).last.status ≡ VideoRefused fault
      → IsFaulty next (left_after inputs taken)) where
    abbrev Refuses : Step GroupState → Type 0
    Refuses step = (follow step rest).last.status ≡ VideoRefused fault

    at_end : (e : Event) (o : Option Refusal) (step : Step GroupState) → (Refuses step → IsFaulty s inputs)
        → Refuses (unless_refused (s.lines + 1) (inputs Events) e o step) → IsFaulty s inputs
    at_end e None step goes ends = goes ends
    at_end e (Some refusal) step goes ends = absurd (cc ends)

    at_captured : (b : ℕ) (v : List ℕ) → inputs Video ≡ b ∷ v → (r : Result (List ℕ) Y4mFault)
        → next_frame s.more s.params.format s.at (b ∷ v) ≡ r
        → Refuses (group_captured_step s (inputs Events) (frame_size s.params.format (b ∷ v)) r) → IsFaulty s inputs
    at_captured b v same (Ok planes) is ends =
        subst (λ (l : List ℕ). first_video_fault s.params.format s.more s.at l ≡ Some fault) (sym same)
        (after_it s.params.format s.more s.at b v planes (inputs Video) same is (later _ _ ends))
    at_captured b v same (Err broken) is ends =
        subst (λ (l : List ℕ). first_video_fault s.params.format s.more s.at l ≡ Some fault) (sym same)
        (at_fault s.params.format s.more s.at b v broken is (first_is broken fault ends))

    at_capture : (video : List ℕ) → inputs Video ≡ video → Refuses (group_capture_step s (inputs Events) video)
        → IsFaulty s inputs
    at_capture [] same ends = absurd (cc ends)
    at_capture (b ∷ v) same ends = at_captured b v same (next_frame s.more s.params.format s.at (b ∷ v)) refl ends

    at_line : (o : Option GroupLine) → Refuses (group_line_step s inputs o) → IsFaulty s inputs
    at_line None ends = absurd (cc ends)
    at_line (Some Quiet) ends = later _ _ ends
    at_line (Some ForAll) ends = at_end Send (first_behind s.params s.run s.views) _ (at_capture (inputs Video) refl)
        ends
    at_line (Some (Of k e)) ends = at_end (event_of e) (view_refusal s.params s.run (view_in s.views k) (event_of e)) _
        (λ goes. later _ _ goes) ends

    at_trace : (trace : List ℕ) → Refuses (group_trace_step s inputs trace) → IsFaulty s inputs
    at_trace [] ends = absurd (cc ends)
    at_trace (b ∷ trace) ends = within (nat_lt s.lines 16777216) refl ends
      where
        within : (t : Bool) → nat_lt s.lines 16777216 ≡ t → Refuses (group_trace_step s inputs (b ∷ trace))
            → IsFaulty s inputs
        within true is ends = at_line (group_line (length s.views) (first_line (b ∷ trace))) (rw is at ends)
        within false is ends = absurd (cc (rw is at ends))

  run_refused : (n : ℕ) (s : GroupState) (inputs : Role → List ℕ) → (machine_run group_step n s inputs).last.status
      ≡ VideoRefused fault → IsFaulty s inputs
  unfolding machine_run
  run_refused zero s inputs ends = at_trace s inputs (λ next taken. silence) (λ next taken is. absurd (cc is))
      (inputs Events) ends
  run_refused (suc n) s inputs ends =
      at_trace s inputs (λ next taken. machine_run group_step n next (left_after inputs taken))
      (λ next taken is. run_refused n next (left_after inputs taken) is) (inputs Events) ends

  pub video_refused : (t : GroupTerms) (inputs : Role → List ℕ) → (group_call_run t inputs).last.status
      ≡ VideoRefused fault
      → video_fault (inputs Video) ≡ Some fault
  unfolding video_fault
  video_refused t inputs ends = by_head (head_of (inputs Video)) ends
    where
      by_head : (r : Result Format Y4mFault)
          → (follow (group_head_step t (inputs Video) r) (λ next taken. machine_run group_step most_lines next
          (left_after inputs taken))).last.status ≡ VideoRefused fault
          → fault_after_head r (head_size (inputs Video)) (drop (head_size (inputs Video)) (inputs Video)) ≡ Some fault
      by_head (Err broken) ends = ap (λ (x : Y4mFault). Some x) (first_is broken fault ends)
      by_head (Ok f) ends = run_refused most_lines _ (left_after inputs (of Video (head_size (inputs Video)))) ends

module _ (fault : Y4mFault) where
  module _ (s : GroupState) (inputs : Role → List ℕ) (rest : GroupState → (Role → ℕ) → Run)
      (more : (next : GroupState) (taken : Role → ℕ) → (rest next taken).last.status ≡ Video2Refused fault → ⊥) where
    abbrev Second : Step GroupState → Type 0
    Second step = (follow step rest).last.status ≡ Video2Refused fault

    second_unless : (e : Event) (o : Option Refusal) (step : Step GroupState) → (Second step → ⊥)
        → Second (unless_refused (s.lines + 1) (inputs Events) e o step) → ⊥
    second_unless e None step goes ends = goes ends
    second_unless e (Some refusal) step goes ends = absurd (cc ends)

    second_captured : (size : ℕ) (r : Result (List ℕ) Y4mFault) → Second (group_captured_step s (inputs Events) size r)
        → ⊥
    second_captured size (Ok planes) ends = more _ _ ends
    second_captured size (Err broken) ends = absurd (cc ends)

    second_capture : (video : List ℕ) → Second (group_capture_step s (inputs Events) video) → ⊥
    second_capture [] ends = absurd (cc ends)
    second_capture (b ∷ v) ends = second_captured (frame_size s.params.format (b ∷ v))
        (next_frame s.more s.params.format s.at (b ∷ v)) ends

    second_line : (o : Option GroupLine) → Second (group_line_step s inputs o) → ⊥
    second_line None ends = absurd (cc ends)
    second_line (Some Quiet) ends = more _ _ ends
    second_line (Some ForAll) ends = second_unless Send (first_behind s.params s.run s.views) _
        (second_capture (inputs Video)) ends
    second_line (Some (Of k e)) ends = second_unless (event_of e) (view_refusal s.params s.run (view_in s.views k)
        (event_of e)) _ (λ goes. more _ _ goes) ends

    second_trace : (trace : List ℕ) → Second (group_trace_step s inputs trace) → ⊥
    second_trace [] ends = absurd (cc ends)
    second_trace (b ∷ trace) ends = within (nat_lt s.lines 16777216) refl ends
      where
        within : (t : Bool) → nat_lt s.lines 16777216 ≡ t → Second (group_trace_step s inputs (b ∷ trace)) → ⊥
        within true is ends = second_line (group_line (length s.views) (first_line (b ∷ trace))) (rw is at ends)
        within false is ends = absurd (cc (rw is at ends))

  run_has_one : (n : ℕ) (s : GroupState) (inputs : Role → List ℕ) → (machine_run group_step n s inputs).last.status
      ≡ Video2Refused fault → ⊥
  unfolding machine_run
  run_has_one zero s inputs ends = second_trace s inputs (λ next taken. silence) (λ next taken is. absurd (cc is))
      (inputs Events) ends
  run_has_one (suc n) s inputs ends =
      second_trace s inputs (λ next taken. machine_run group_step n next (left_after inputs taken))
      (λ next taken is. run_has_one n next (left_after inputs taken) is) (inputs Events) ends

  pub no_second : (t : GroupTerms) (inputs : Role → List ℕ) → (group_call_run t inputs).last.status
      ≡ Video2Refused fault → ⊥
  no_second t inputs ends = by_head (head_of (inputs Video)) ends
    where
      by_head : (r : Result Format Y4mFault)
          → (follow (group_head_step t (inputs Video) r) (λ next taken. machine_run group_step most_lines next
          (left_after inputs taken))).last.status ≡ Video2Refused fault → ⊥
      by_head (Ok f) ends = run_has_one most_lines _ _ ends
      by_head (Err broken) ends = absurd (cc ends)
