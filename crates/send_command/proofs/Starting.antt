-- The start by what the reader of the head says.
use Rattle.std.proofs.Common.{◌≡◌, ◌≢◌, ℕ, ◌≤◌, Bool, true, false, List, take, drop, Some, Result, Ok, Err, IsErr, refl, ap, ◌∙◌, if◌then◌else◌}
use Rattle.h263_outside.specs.Desk.{Outside, is_role}
use Rattle.h263_outside.specs.declared.desk.Role.{Role}
use Rattle.h263_outside.specs.declared.desk.Role.TheVariants.{Video, Events}
use Rattle.h263_types.specs.declared.format.Format.{Format}
use Rattle.y4m.specs.declared.fault.Y4mFault.{Y4mFault}
use Rattle.y4m.specs.declared.fault.VideoStop.{VideoStop}
use Rattle.y4m.specs.declared.fault.VideoStop.TheVariants.{Read, Refused}
use Rattle.y4m.specs.Place.{Y4mPlace}
use Rattle.y4m.specs.Head.{head_of, head_size}
use Rattle.y4m.specs.Reader.{HeadGives}
use Rattle.call_report.specs.declared.status.Status.TheVariants.{VideoRefused}
use Rattle.call_report.specs.Status.{phase, video_stop}
use Rattle.desk_program.specs.Run.{left_after}
use Rattle.desk_program.specs.Ends.{Tells, IsPart, Went, GivesUp, step_turns}
use Rattle.desk_program.specs.Texts.{no_texts, of}
use Rattle.desk_program.specs.Laws.{TurnLaws}
use Rattle.send_command.specs.declared.sending.Sending.{Sending}
use Rattle.send_command.specs.Send.{SendState, send_at_start, send_head_step, refused_sender_video, send_begin}
use Rattle.send_command.proofs.Apart.{not_video, refused_by}
use Rattle.send_command.proofs.Held.{no_frame_held, not_an_err}

abbrev pub CutHeads : Type 0
CutHeads = (video : List ℕ) (f : Format) (k : ℕ) → head_of video ≡ Ok f → head_size video ≤ k
    → (head_of (take k video) ≡ Ok f) × (head_size (take k video) ≡ head_size video)

head_part : CutHeads → (setup : Sending) (video : List ℕ) (k : ℕ) (r : Result Format Y4mFault) → head_of video ≡ r
    → IsErr (head_of (take k video)) → IsPart (step_turns (send_head_step setup (head_size video) r)) (of Video k)
head_part cut setup video k (Ok f) is lost = no_frame_held (record {
  taken = of Video (head_size video);
  whole = true;
  texts = no_texts;
}) (of Video k) (λ whole. not_an_err _ f (cut video f k is whole).0 lost)
head_part cut setup video k (Err fault) is lost = tt

module _ (laws : TurnLaws) (setup : Sending) (inputs : Role → List ℕ) (old mid : Outside) (told : Tells old inputs)
    (others : (r : Role) → r ≢ Video → mid.left r ≡ old.left r) (same : mid.written ≡ old.written) where
  none_of : (b : Bool) (l : List ℕ) → Some l ≡ Some (drop (if b then 0 else 0) l)
  none_of true l = refl
  none_of false l = refl

  -- nothing of the log is taken
  none_gone : (r : Role) → Some (inputs r) ≡ Some (left_after inputs (of Events 0) r)
  none_gone r = none_of (is_role Events r) (inputs r)

  pub head_stops : CutHeads → (stop : VideoStop) → HeadGives (Err stop) (inputs Video) (mid.left Video)
      → GivesUp (phase (video_stop stop)) (video_stop stop) (send_begin setup inputs) true inputs old mid
  head_stops cut Read e = record {
    part = of Video e.0;
    partly = head_part cut setup (inputs Video) e.0 (head_of (inputs Video)) refl e.2;
    could = refl;
    left = laws.one_read Video e.0 old mid inputs told e.1 others;
    written = same;
  }
  head_stops cut (Refused fault) e = record {
    last = refused_sender_video 0 fault;
    is = ap (send_head_step setup (head_size (inputs Video))) e;
    by =
        refused_by laws Video (of Events 0) (VideoRefused fault) inputs old mid
        (λ r input other. others r (not_video r other) ∙ told r input ∙ none_gone r) same;
  }

  pub head_goes : (reader : Y4mPlace) (stands : SendState → (Role → List ℕ) → Type 0)
      → HeadGives (Ok reader) (inputs Video) (mid.left Video)
      → stands (send_at_start setup reader.format (head_size (inputs Video)))
      (left_after inputs (of Video (head_size (inputs Video))))
      → Went (send_begin setup inputs) stands (λ _. true) true inputs old mid
  head_goes reader stands e kept = record {
    next = send_at_start setup reader.format (head_size (inputs Video));
    turn = record { taken = of Video (head_size (inputs Video)); whole = true; texts = no_texts };
    could = refl;
    is = ap (send_head_step setup (head_size (inputs Video))) e.0;
    kept = kept;
    whole = refl;
    left = laws.one_read Video (head_size (inputs Video)) old mid inputs told e.2 others;
    written = laws.no_text old.written mid.written same;
  }
