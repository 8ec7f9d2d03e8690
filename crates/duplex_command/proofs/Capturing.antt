-- What a line `S` makes of the frame that is read for it, over a desk where its party is the first one.
use Rattle.std.proofs.Common.{◌≡◌, ◌≢◌, ℕ, zero, suc, ◌+◌, ◌<◌, Bool, true, false, List, [], ◌∷◌, length, take, drop, Option, Some, Result, Ok, Err, IsErr, refl, sym, ap, subst, ◌∙◌, arith}
use Rattle.h263_types.specs.declared.format.Format.{Format}
use Rattle.h263_outside.specs.Desk.{Outside}
use Rattle.h263_outside.specs.declared.desk.Role.{Role}
use Rattle.h263_outside.specs.declared.desk.Role.TheVariants.{Video, Events, Pictures}
use Rattle.y4m.specs.declared.fault.Y4mFault.{Y4mFault}
use Rattle.y4m.specs.declared.fault.VideoStop.{VideoStop}
use Rattle.y4m.specs.declared.fault.VideoStop.TheVariants.{Read, Refused}
use Rattle.y4m.specs.Place.{Y4mPlace}
use Rattle.y4m.specs.Frame.{frame_of, next_frame, frame_size}
use Rattle.y4m.specs.Reader.{FrameGives}
use Rattle.loss_trace.specs.declared.fault.TraceFault.TheVariants.{NoFrame}
use Rattle.loss_trace.specs.Lines.{is_closed}
use Rattle.call_report.specs.declared.status.Status.TheVariants.{TraceRefused, VideoRefused}
use Rattle.call_report.specs.Status.{phase, video_stop}
use Rattle.desk_program.specs.Run.{Step, left_after, video_refusal}
use Rattle.desk_program.specs.Ends.{Tells, IsPart, Went, Ended, EndsBy, GivesUp, step_turns}
use Rattle.desk_program.specs.Texts.{no_texts, of, and_of}
use Rattle.desk_program.specs.Laws.{TurnLaws}
use Rattle.duplex_call.specs.declared.line.Party.{Party}
use Rattle.duplex_command.specs.Duplex.{DuplexState, VideoPlace, after_party_line, party_capture_step, party_captured_step, talk_may_read, video_place_of, with_party_frame}
use Rattle.call_command.specs.Call.{line_size, refused_line}
use Rattle.call_command.specs.Laws.{LineLaws, VideoLaws}
use Rattle.call_command.specs.Standing.{HasTaken}
use Rattle.duplex_command.specs.Standing.{place_in_video}
use Rattle.duplex_command.proofs.LineTurning.{double_not}

-- ---- a part of a frame holds no turn

not_an_err : {T E : Type 0} (r : Result T E) (x : T) → r ≡ Ok x → IsErr r → ⊥
not_an_err {T} {E} r x is lost = ok_is_none x (subst IsErr is lost)
  where
    ok_is_none : (x : T) → IsErr {T = T} {E = E} (Ok x) → ⊥
    ok_is_none x lost = absurd (cc lost)

next_is : (n : ℕ) (f : Format) (at : ℕ) (rest frame : List ℕ) → next_frame n f at rest ≡ Ok frame
    → frame_of f at rest ≡ Ok frame
next_is zero f at rest frame is = absurd (cc is)
next_is (suc n) f at rest frame is = is

-- the bytes of the line, and this many of its frame
abbrev some_of : List ℕ → ℕ → Role → ℕ
some_of trace n = and_of (of Events (line_size trace)) (of Video n)

module _ (x : Party) (s : DuplexState) where
  abbrev format : Format
  format = (s.params x).format

  abbrev place : VideoPlace
  place = video_place_of x s

  abbrev step_at : List ℕ → List ℕ → Step DuplexState
  step_at trace video = party_capture_step Video Pictures VideoRefused x s trace video

  abbrev captured : List ℕ → ℕ → Result (List ℕ) Y4mFault → Step DuplexState
  captured trace size r = party_captured_step Video Pictures VideoRefused x s trace size r

  frame_part : LineLaws → VideoLaws → (trace video : List ℕ) (n : ℕ) (r : Result (List ℕ) Y4mFault)
      → next_frame place.more format place.at video ≡ r
      → IsErr (frame_of format place.at (take n video))
      → IsPart (step_turns (captured trace (frame_size format video) r)) (some_of trace n)
  frame_part lines laws trace video n (Ok frame) is lost =
      lines.frame_part trace (frame_size format video) n
      (λ whole. not_an_err _ frame (laws.frame format place.at n video frame
      (next_is place.more format place.at video frame is) whole).0 lost)
  frame_part lines laws trace video n (Err fault) is lost = tt

  video_part : LineLaws → VideoLaws → (trace video : List ℕ) (n : ℕ) → IsErr (frame_of format place.at (take n video))
      → IsPart (step_turns (step_at trace video)) (some_of trace n)
  video_part lines laws trace [] n lost = tt
  video_part lines laws trace (b ∷ rest) n lost = frame_part lines laws trace (b ∷ rest) n
      (next_frame place.more format place.at (b ∷ rest)) refl lost

  video_next : (trace video : List ℕ) (r : Result (List ℕ) Y4mFault) → 0 < length video
      → next_frame place.more format place.at video ≡ r
      → step_at trace video ≡ captured trace (frame_size format video) r
  video_next trace [] r some is = absurd (omega arith)
  video_next trace (b ∷ rest) r some is = ap (captured trace (frame_size format (b ∷ rest))) is

  -- ---- what the reader of a frame says, for a state that has its format, place and count

  abbrev pub Gives : Result Bool VideoStop → List ℕ → List ℕ → Y4mPlace → Option (List ℕ) → Type 0
  Gives (Ok true) rest out new left =
      (0 < length rest) × (next_frame place.more format place.at rest ≡ Ok out)
      × (new.at ≡ place.at + frame_size format rest) × (left ≡ Some (drop (frame_size format rest) rest))
  Gives (Ok false) rest out new left = (rest ≡ []) × (left ≡ Some [])
  Gives (Err (Refused fault)) rest out new left = (0 < length rest) × (next_frame place.more format place.at rest
      ≡ Err fault)
  Gives (Err Read) rest out new left = (k : ℕ) × (left ≡ Some (drop k rest))
      × IsErr (frame_of format place.at (take k rest))

  pub gives_so : (r : Result Bool VideoStop) (reader new : Y4mPlace) (rest out : List ℕ) (left : Option (List ℕ))
      → place ≡ place_in_video reader → reader.format ≡ format → FrameGives r reader rest out new left
      → Gives r rest out new left
  gives_so (Ok true) reader new rest out left is form (some, next, at, gone) = (
    some,
    (λ i. next_frame (is i).more (sym form i) (is i).at rest) ∙ next,
    at ∙ (λ i. (sym is i).at + frame_size (form i) rest),
    gone ∙ ap (λ (f : Format). Some (drop (frame_size f rest) rest)) form,
  )
  gives_so (Ok false) reader new rest out left is form gives = gives
  gives_so (Err (Refused fault)) reader new rest out left is form (some, next) =
      (some, (λ i. next_frame (is i).more (sym form i) (is i).at rest) ∙ next)
  gives_so (Err Read) reader new rest out left is form (k, gone, lost) = (
    k,
    gone,
    subst (λ (f : Format). IsErr (frame_of f place.at (take k rest))) form
        (subst (λ (p : VideoPlace). IsErr (frame_of reader.format p.at (take k rest))) (sym is) lost),
  )

  -- ---- the capture: `old` is the desk after the line, `mid` after the read of the frame

  module _ (turns : TurnLaws) (lines : LineLaws) (laws : VideoLaws) (inputs : Role → List ℕ) (before old mid : Outside)
      (taken : HasTaken inputs before old) (others : (r : Role) → r ≢ Video
      → mid.left r ≡ old.left r) (same : mid.written ≡ old.written) (reader : Y4mPlace) (out : List ℕ) where
    abbrev trace : List ℕ
    trace = inputs Events

    abbrev step : Step DuplexState
    step = step_at trace (inputs Video)

    video_told : (k : ℕ) → mid.left Video ≡ Some (drop k (inputs Video))
        → Tells mid (left_after inputs (some_of trace k))
    video_told k gone =
        turns.both_reads (of Events (line_size trace)) (of Video k) mid inputs
        (turns.one_read Video k old mid (left_after inputs (of Events (line_size trace))) taken.left gone others)

    pub frame_stops : (stop : VideoStop) → Gives (Err stop) (inputs Video) out reader (mid.left Video)
        → GivesUp (phase (video_stop stop)) (video_stop stop) step true inputs before mid
    frame_stops Read e = record {
      part = some_of trace e.0;
      partly = video_part lines laws trace (inputs Video) e.0 e.2;
      could = refl;
      left = video_told e.0 e.1;
      written = same ∙ taken.written;
    }
    frame_stops (Refused fault) e =
        record {
          last = video_refusal Video (of Events (line_size trace)) (VideoRefused fault);
          is = video_next trace (inputs Video) (Err fault) e.0 e.1;
          by = turns.refuses_video Video (of Events (line_size trace)) (VideoRefused fault) inputs before mid
              (λ r input other. others r other ∙ taken.left r input) (same ∙ taken.written);
        }

    -- no frame is left
    pub frame_missing : (line : ℕ) → line ≡ s.lines + 1 → Gives (Ok false) (inputs Video) out reader (mid.left Video)
        → Ended step (TraceRefused (NoFrame line)) inputs before mid
    frame_missing line is e = record {
      last = refused_line trace (NoFrame (s.lines + 1));
      is = ap (step_at trace) e.0;
      by = subst (λ (n : ℕ). EndsBy (refused_line trace (NoFrame (s.lines + 1))) (TraceRefused (NoFrame n)) inputs
          before mid) (sym is)
          (lines.refused (NoFrame (s.lines + 1)) inputs before mid (record {
            left = turns.none_read Video old mid (left_after inputs (of Events (line_size trace))) taken.left e.0 e.1
                others;
            written = same ∙ taken.written;
          }));
    }

    -- the frame is sent
    module _ (e : Gives (Ok true) (inputs Video) out reader (mid.left Video)) where
      abbrev size : ℕ
      size = frame_size format (inputs Video)

      pub frame_sent : (stands : DuplexState → (Role → List ℕ) → Type 0)
          → stands (after_party_line (with_party_frame x s size out) trace) (left_after inputs (some_of trace size))
          → Went step stands talk_may_read true inputs before mid
      frame_sent stands kept = record {
        next = after_party_line (with_party_frame x s size out) trace;
        turn = record { taken = some_of trace size; whole = is_closed trace; texts = no_texts };
        could = refl;
        is = video_next trace (inputs Video) (Ok out) e.0 e.1;
        kept = kept;
        whole = sym (double_not (is_closed trace));
        left = video_told size e.3;
        written = turns.no_text before.written mid.written (same ∙ taken.written);
      }

pub given : (r known : Result Bool VideoStop) (reader new : Y4mPlace) (rest out : List ℕ) (left : Option (List ℕ))
    → r ≡ known → FrameGives r reader rest out new left → FrameGives known reader rest out new left
given r known reader new rest out left is gives =
    subst (λ (x : Result Bool VideoStop). FrameGives x reader rest out new left) is gives
