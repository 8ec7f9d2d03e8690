-- A sender has one video, so none is refused as a second one.
use Rattle.std.proofs.Common.{◌≡◌, ℕ, zero, suc, Bool, true, false, List, [], ◌∷◌, Option, Some, None, Result, Ok, Err, refl, nat_lt}
use Rattle.h263_outside.specs.declared.desk.Role.{Role}
use Rattle.h263_outside.specs.declared.desk.Role.TheVariants.{Video, Events}
use Rattle.h263_types.specs.declared.format.Format.{Format}
use Rattle.y4m.specs.declared.fault.Y4mFault.{Y4mFault}
use Rattle.y4m.specs.Frame.{next_frame, frame_size}
use Rattle.y4m.specs.Head.{head_of, head_size}
use Rattle.event_logs.specs.declared.entry.Side.TheVariants as sides
use Rattle.event_logs.specs.declared.entry.Entry.{Entry}
use Rattle.event_logs.specs.declared.entry.Entry.TheVariants as log_entry
use Rattle.event_logs.specs.Entry.{entry_in}
use Rattle.call_report.specs.declared.status.Status.TheVariants.{Video2Refused}
use Rattle.desk_program.specs.Run.{Run, left_after, follow, machine_run, run_from, silence}
use Rattle.send_command.specs.declared.sending.Sending.{Sending}
use Rattle.send_command.specs.Send.{SendState, send_begin, send_step, sender_log_step, sender_entry_step, entry_capture_step, sender_frame_step, send_head_step, most_entries}

module _ (fault : Y4mFault) where
  module _ (s : SendState) (inputs : Role → List ℕ) (rest : SendState → (Role → ℕ) → Run)
      (more : (next : SendState) (taken : Role → ℕ) → (rest next taken).last.status ≡ Video2Refused fault → ⊥) where
    at_frame : (size : ℕ) (r : Result (List ℕ) Y4mFault) → (follow (sender_frame_step s size r) rest).last.status
        ≡ Video2Refused fault → ⊥
    at_frame size (Ok planes) ends = more _ _ ends
    at_frame size (Err broken) ends = absurd (cc ends)

    at_capture : (video : List ℕ) → (follow (entry_capture_step s video) rest).last.status ≡ Video2Refused fault → ⊥
    at_capture [] ends = absurd (cc ends)
    at_capture (b ∷ v) ends =
        at_frame (frame_size s.params.format (b ∷ v)) (next_frame s.more s.params.format s.video_at (b ∷ v)) ends

    at_entry : (o : Option Entry) → (follow (sender_entry_step s inputs o) rest).last.status ≡ Video2Refused fault → ⊥
    at_entry None ends = absurd (cc ends)
    at_entry (Some log_entry.Capture) ends = at_capture (inputs Video) ends
    at_entry (Some (log_entry.Back len)) ends = more _ _ ends
    at_entry (Some (log_entry.Packet len)) ends = absurd (cc ends)
    at_entry (Some log_entry.Play) ends = absurd (cc ends)

    at_log : (log : List ℕ) → (follow (sender_log_step s inputs log) rest).last.status ≡ Video2Refused fault → ⊥
    at_log [] ends = absurd (cc ends)
    at_log (b ∷ log) ends = within (nat_lt s.read most_entries) refl ends
      where
        within : (t : Bool) → nat_lt s.read most_entries ≡ t → (follow (sender_log_step s inputs (b ∷ log))
            rest).last.status
            ≡ Video2Refused fault → ⊥
        within true is ends = at_entry (entry_in sides.Send (b ∷ log)) (rw is at ends)
        within false is ends = absurd (cc (rw is at ends))

  run_refuses_none : (n : ℕ) (s : SendState) (inputs : Role → List ℕ) → (machine_run send_step n s inputs).last.status
      ≡ Video2Refused fault → ⊥
  unfolding machine_run
  run_refuses_none zero s inputs ends = at_log s inputs (λ next taken. silence) (λ next taken is. absurd (cc is))
      (inputs Events) ends
  run_refuses_none (suc n) s inputs ends =
      at_log s inputs (λ next taken. machine_run send_step n next (left_after inputs taken))
      (λ next taken is. run_refuses_none n next (left_after inputs taken) is) (inputs Events) ends

  pub none_refused : (setup : Sending) (inputs : Role → List ℕ)
      → (run_from (send_begin setup inputs) send_step 16777216 inputs).last.status ≡ Video2Refused fault → ⊥
  none_refused setup inputs ends = by_head (head_of (inputs Video)) ends
    where
      by_head : (r : Result Format Y4mFault)
          → (follow (send_head_step setup (head_size (inputs Video)) r)
          (λ next taken. machine_run send_step 16777216 next
          (left_after inputs taken))).last.status ≡ Video2Refused fault → ⊥
      by_head (Ok f) ends = run_refuses_none 16777216 _ _ ends
      by_head (Err broken) ends = absurd (cc ends)
