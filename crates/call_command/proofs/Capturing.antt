-- What a line `S` makes of the frame that is read for it.
use Rattle.std.proofs.Common.{◌≡◌, ◌≢◌, ℕ, ◌+◌, ◌-◌, ◌<◌, true, false, List, [], ◌∷◌, length, take, drop, Some, Result, Ok, Err, IsErr, refl, sym, ap, subst, ◌∙◌, arith}
use Rattle.h263_outside.specs.Desk.{Outside}
use Rattle.h263_outside.specs.declared.desk.Role.{Role}
use Rattle.h263_outside.specs.declared.desk.Role.TheVariants.{Video, Events}
use Rattle.h263_planes.specs.Layout.{picture_of}
use Rattle.y4m.specs.declared.fault.Y4mFault.{Y4mFault}
use Rattle.y4m.specs.declared.fault.VideoStop.{VideoStop}
use Rattle.y4m.specs.declared.fault.VideoStop.TheVariants.{Read, Refused}
use Rattle.y4m.specs.Place.{Y4mPlace}
use Rattle.y4m.specs.Frame.{frame_of, next_frame, frame_size}
use Rattle.loss_trace.specs.declared.fault.TraceFault.TheVariants.{NoFrame}
use Rattle.loss_trace.specs.Lines.{is_closed}
use Rattle.call_report.specs.declared.status.Status.TheVariants.{TraceRefused, VideoRefused}
use Rattle.call_report.specs.Status.{phase, video_stop}
use Rattle.desk_program.specs.Run.{Step, left_after, video_refusal}
use Rattle.desk_program.specs.Ends.{Tells, IsPart, Went, Ended, EndsBy, GivesUp, step_turns}
use Rattle.desk_program.specs.Texts.{no_texts, of}
use Rattle.desk_program.specs.Laws.{TurnLaws}
use Rattle.one_way.specs.Both.{bare}
use Rattle.call_command.specs.Call.{CallState, after_line, capture_step, captured_step, line_size, may_read, refused_line, with_frame}
use Rattle.call_command.specs.Laws.{VideoLaws}
use Rattle.call_command.specs.Standing.{HasTaken}
use Rattle.call_command.proofs.FrameTurning.{Gives, next_is, not_an_err}
use Rattle.call_command.proofs.Lines.{double_not, frame_held, refused_by, with_frame_bytes}

-- ---- a part of a frame holds no turn

frame_part : VideoLaws → (s : CallState) (trace video : List ℕ) (n : ℕ) (r : Result (List ℕ) Y4mFault)
    → next_frame s.more s.params.format s.at video ≡ r
    → IsErr (frame_of s.params.format s.at (take n video))
    → IsPart (step_turns (captured_step s trace (frame_size s.params.format video) r)) (with_frame_bytes trace n)
frame_part laws s trace video n (Ok frame) is lost =
    frame_held trace (frame_size s.params.format video) n
    (λ whole. not_an_err _ frame (laws.frame s.params.format s.at n video frame
    (next_is s.more s.params.format s.at video frame is) whole).0 lost)
frame_part laws s trace video n (Err fault) is lost = tt

video_part : VideoLaws → (s : CallState) (trace video : List ℕ) (n : ℕ)
    → IsErr (frame_of s.params.format s.at (take n video))
    → IsPart (step_turns (capture_step s trace video)) (with_frame_bytes trace n)
video_part laws s trace [] n lost = tt
video_part laws s trace (b ∷ rest) n lost = frame_part laws s trace (b ∷ rest) n (next_frame s.more s.params.format s.at
    (b ∷ rest)) refl lost

-- ---- which step it is

video_next : (s : CallState) (trace video : List ℕ) (r : Result (List ℕ) Y4mFault) → 0 < length video
    → next_frame s.more s.params.format s.at video ≡ r
    → capture_step s trace video ≡ captured_step s trace (frame_size s.params.format video) r
video_next s trace [] r some is = absurd (omega arith)
video_next s trace (b ∷ rest) r some is = ap (captured_step s trace (frame_size s.params.format (b ∷ rest))) is

-- ---- the capture: `old` is the desk after the line, `mid` after the read of the frame

module _ (turns : TurnLaws) (laws : VideoLaws) (s : CallState) (inputs : Role → List ℕ) (before old mid : Outside)
    (taken : HasTaken inputs before old) (others : (r : Role) → r ≢ Video → mid.left r ≡ old.left r) (same : mid.written
    ≡ old.written) (reader : Y4mPlace) (out : List ℕ) where
  abbrev trace : List ℕ
  trace = inputs Events

  abbrev step : Step CallState
  step = capture_step s trace (inputs Video)

  video_told : (k : ℕ) → mid.left Video ≡ Some (drop k (inputs Video))
      → Tells mid (left_after inputs (with_frame_bytes trace k))
  video_told k gone =
      turns.both_reads (of Events (line_size trace)) (of Video k) mid inputs
      (turns.one_read Video k old mid (left_after inputs (of Events (line_size trace))) taken.left gone others)

  pub frame_stops : (stop : VideoStop) → Gives (Err stop) s (inputs Video) out reader (mid.left Video)
      → GivesUp (phase (video_stop stop)) (video_stop stop) step true inputs before mid
  frame_stops Read e = record {
    part = with_frame_bytes trace e.0;
    partly = video_part laws s trace (inputs Video) e.0 e.2;
    could = refl;
    left = video_told e.0 e.1;
    written = same ∙ taken.written;
  }
  frame_stops (Refused fault) e =
      record {
        last = video_refusal Video (of Events (line_size trace)) (VideoRefused fault);
        is = video_next s trace (inputs Video) (Err fault) e.0 e.1;
        by = turns.refuses_video Video (of Events (line_size trace)) (VideoRefused fault) inputs before mid
            (λ r input other. others r other ∙ taken.left r input) (same ∙ taken.written);
      }

  -- no frame is left
  pub frame_missing : (line : ℕ) → line ≡ s.lines + 1 → Gives (Ok false) s (inputs Video) out reader (mid.left Video)
      → Ended step (TraceRefused (NoFrame line)) inputs before mid
  frame_missing line is e = record {
    last = refused_line trace (NoFrame (s.lines + 1));
    is = ap (capture_step s trace) e.0;
    by = subst (λ (n : ℕ). EndsBy (refused_line trace (NoFrame (s.lines + 1))) (TraceRefused (NoFrame n)) inputs before
        mid) (sym is)
        (refused_by turns (NoFrame (s.lines + 1)) inputs before mid (record {
          left = turns.none_read Video old mid (left_after inputs (of Events (line_size trace))) taken.left e.0 e.1
              others;
          written = same ∙ taken.written;
        }));
  }

  -- the frame is sent
  module _ (e : Gives (Ok true) s (inputs Video) out reader (mid.left Video)) where
    abbrev size : ℕ
    size = frame_size s.params.format (inputs Video)

    abbrev sent : CallState
    sent = record (after_line (with_frame s (bare (picture_of s.params.format out))) trace) {
      at = s.at + size;
      more = s.more - 1;
    }

    pub frame_sent : (stands : CallState → (Role → List ℕ) → Type 0)
        → stands sent (left_after inputs (with_frame_bytes trace size))
        → Went step stands may_read true inputs before mid
    frame_sent stands kept = record {
      next = sent;
      turn = record { taken = with_frame_bytes trace size; whole = is_closed trace; texts = no_texts };
      could = refl;
      is = video_next s trace (inputs Video) (Ok out) e.0 e.1;
      kept = kept;
      whole = sym (double_not (is_closed trace));
      left = video_told size e.3;
      written = turns.no_text before.written mid.written (same ∙ taken.written);
    }
