-- A video that is refused has that fault.
use Rattle.std.proofs.Common.{◌≡◌, ℕ, zero, suc, ◌+◌, ◌-◌, Bool, true, false, List, [], ◌∷◌, drop, Option, Some, None, Result, Ok, Err, refl, sym, ap, ◌∙◌, arith, nat_lt}
use Rattle.h263_outside.specs.declared.desk.Role.{Role}
use Rattle.h263_outside.specs.declared.desk.Role.TheVariants.{Video, Events}
use Rattle.h263_types.specs.declared.format.Format.{Format}
use Rattle.y4m.specs.declared.fault.Y4mFault.{Y4mFault}
use Rattle.y4m.specs.Frame.{next_frame, frame_size}
use Rattle.y4m.specs.Head.{head_of, head_size}
use Rattle.y4m.specs.Laws.{FrameLaws}
use Rattle.y4m.specs.Video.{first_video_fault, fault_after_head, video_fault}
use Rattle.event_logs.specs.declared.entry.Side.TheVariants as sides
use Rattle.event_logs.specs.declared.entry.Entry.{Entry}
use Rattle.event_logs.specs.declared.entry.Entry.TheVariants as log_entry
use Rattle.event_logs.specs.Entry.{entry_in}
use Rattle.call_report.specs.declared.status.Status.TheVariants.{VideoRefused}
use Rattle.desk_program.specs.Run.{Run, left_after, follow, machine_run, run_from, silence}
use Rattle.desk_program.specs.Texts.{of, and_of}
use Rattle.send_command.specs.declared.sending.Sending.{Sending}
use Rattle.send_command.specs.Send.{SendState, captured, send_begin, send_step, sender_log_step, sender_entry_step, entry_capture_step, sender_frame_step, send_head_step, after_captured_frame, send_at_start, most_entries}

refused_is : (a b : Y4mFault) → VideoRefused a ≡ VideoRefused b → a ≡ b
refused_is a b is = cc is

module _ (frame_laws : FrameLaws) (fault : Y4mFault) where
  some_left : (m at : ℕ) (f : Format) (rest planes : List ℕ) → next_frame m f at rest ≡ Ok planes → m - 1 + 1 ≡ m
  some_left zero at f rest planes is = absurd (cc is)
  some_left (suc m) at f rest planes is = omega arith

  module _ (s : SendState) (inputs : Role → List ℕ) (rest : SendState → (Role → ℕ) → Run)
      (more : (next : SendState) (taken : Role → ℕ) → (rest next taken).last.status ≡ VideoRefused fault
      → first_video_fault next.params.format next.more next.video_at (left_after inputs taken Video) ≡ Some fault) where
    abbrev faulty : List ℕ → Type 0
    faulty video = first_video_fault s.params.format s.more s.video_at video ≡ Some fault

    at_frame : (b : ℕ) (v : List ℕ) → inputs Video ≡ b ∷ v → (r : Result (List ℕ) Y4mFault)
        → next_frame s.more s.params.format s.video_at (b ∷ v) ≡ r
        → (follow (sender_frame_step s (frame_size s.params.format (b ∷ v)) r) rest).last.status ≡ VideoRefused fault
        → faulty (b ∷ v)
    at_frame b v video (Ok planes) is ends =
        let f = s.params.format in
        let size = frame_size f (b ∷ v) in
        let e = frame_laws.next f s.more (s.more - 1) s.video_at (b ∷ v) planes
        (some_left s.more s.video_at f (b ∷ v) planes is) (omega arith) is in
        let taken : 0 + size ≡ size = omega arith in
        e.fault
        ∙ sym (λ i. first_video_fault f (s.more - 1) (s.video_at + size) (drop (taken i) (video i)))
        ∙ more (after_captured_frame s size (captured f planes)) (and_of (of Events 3) (of Video size)) ends
    at_frame b v video (Err broken) is ends =
        (frame_laws.stops s.params.format s.more s.video_at (b ∷ v) broken (omega arith) is).1
        ∙ ap (λ (x : Y4mFault). Some x) (refused_is broken fault ends)

    at_capture : (video : List ℕ) → inputs Video ≡ video → (follow (entry_capture_step s video) rest).last.status
        ≡ VideoRefused fault → faulty video
    at_capture [] is ends = absurd (cc ends)
    at_capture (b ∷ v) is ends = at_frame b v is (next_frame s.more s.params.format s.video_at (b ∷ v)) refl ends

    at_entry : (o : Option Entry) → (follow (sender_entry_step s inputs o) rest).last.status ≡ VideoRefused fault
        → faulty (inputs Video)
    at_entry None ends = absurd (cc ends)
    at_entry (Some log_entry.Capture) ends = at_capture (inputs Video) refl ends
    at_entry (Some (log_entry.Back len)) ends = more _ (of Events (3 + len)) ends
    at_entry (Some (log_entry.Packet len)) ends = absurd (cc ends)
    at_entry (Some log_entry.Play) ends = absurd (cc ends)

    at_log : (log : List ℕ) → (follow (sender_log_step s inputs log) rest).last.status ≡ VideoRefused fault
        → faulty (inputs Video)
    at_log [] ends = absurd (cc ends)
    at_log (b ∷ log) ends = within (nat_lt s.read most_entries) refl ends
      where
        within : (t : Bool) → nat_lt s.read most_entries ≡ t → (follow (sender_log_step s inputs (b ∷ log))
            rest).last.status
            ≡ VideoRefused fault → faulty (inputs Video)
        within true is ends = at_entry (entry_in sides.Send (b ∷ log)) (rw is at ends)
        within false is ends = absurd (cc (rw is at ends))

  run_refused : (n : ℕ) (s : SendState) (inputs : Role → List ℕ) → (machine_run send_step n s inputs).last.status
      ≡ VideoRefused fault
      → first_video_fault s.params.format s.more s.video_at (inputs Video) ≡ Some fault
  unfolding machine_run
  run_refused zero s inputs ends = at_log s inputs (λ next taken. silence) (λ next taken is. absurd (cc is))
      (inputs Events) ends
  run_refused (suc n) s inputs ends =
      at_log s inputs (λ next taken. machine_run send_step n next (left_after inputs taken))
      (λ next taken is. run_refused n next (left_after inputs taken) is) (inputs Events) ends

  pub video_refused : (setup : Sending) (inputs : Role → List ℕ)
      → (run_from (send_begin setup inputs) send_step 16777216 inputs).last.status ≡ VideoRefused fault
      → video_fault (inputs Video) ≡ Some fault
  unfolding video_fault
  video_refused setup inputs ends = by_head (head_of (inputs Video)) refl ends
    where
      by_head : (r : Result Format Y4mFault) → head_of (inputs Video) ≡ r
          → (follow (send_head_step setup (head_size (inputs Video)) r)
          (λ next taken. machine_run send_step 16777216 next
          (left_after inputs taken))).last.status ≡ VideoRefused fault
          → fault_after_head r (head_size (inputs Video)) (drop (head_size (inputs Video)) (inputs Video)) ≡ Some fault
      by_head (Ok f) is ends = run_refused 16777216 (send_at_start setup f (head_size (inputs Video)))
          (left_after inputs (of Video (head_size (inputs Video)))) ends
      by_head (Err broken) is ends = ap (λ (x : Y4mFault). Some x) (refused_is broken fault ends)
