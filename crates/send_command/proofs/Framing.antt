-- What a capture makes of the frame that is read for it.
use Rattle.std.proofs.Common.{Global, ◌≡◌, ◌≢◌, ℕ, zero, suc, ◌+◌, ◌<◌, ◌≤◌, Bool, true, false, List, [], ◌∷◌, length, take, drop, Option, Some, Result, Ok, Err, IsErr, refl, sym, ap, ◌∙◌, subst, arith}
use Rattle.std.specs.Vec.{with_items}
use Rattle.std.specs.declared.vec.Vec.{Vec}
use Rattle.std.proofs.lemmas.List.{with_items_is}
use Rattle.h263_outside.specs.Desk.{Outside}
use Rattle.h263_outside.specs.declared.desk.Role.{Role}
use Rattle.h263_outside.specs.declared.desk.Role.TheVariants.{Video, Events}
use Rattle.h263_types.specs.declared.format.Format.{Format}
use Rattle.h263_types.specs.Sizes.{size_of_picture}
use Rattle.y4m.specs.declared.fault.Y4mFault.{Y4mFault}
use Rattle.y4m.specs.declared.fault.VideoStop.{VideoStop}
use Rattle.y4m.specs.declared.fault.VideoStop.TheVariants.{Read, Refused}
use Rattle.y4m.specs.Place.{Y4mPlace}
use Rattle.y4m.specs.Frame.{frame_of, next_frame, frame_size}
use Rattle.y4m.specs.Video.{most_frames}
use Rattle.y4m.specs.Reader.{FrameGives, MovesVideo}
use Rattle.event_logs.specs.declared.fault.LogFault.TheVariants.{NoFrame}
use Rattle.call_report.specs.declared.status.Status.TheVariants.{VideoRefused, LogRefused}
use Rattle.call_report.specs.Status.{phase, video_stop}
use Rattle.desk_program.specs.Run.{Step, left_after}
use Rattle.desk_program.specs.Ends.{Tells, Gains, GainsFronts, holds, IsPart, Went, Ended, EndsBy, GivesUp, step_turns, step_texts}
use Rattle.desk_program.specs.Texts.{no_texts, of, and_of}
use Rattle.desk_program.specs.Laws.{TurnLaws}
use Rattle.send_command.specs.Send.{SendState, captured, capture_texts, after_captured_frame, sender_frame_step, entry_capture_step, no_frame, refused_sender_video}
use Rattle.send_command.specs.Stands.{HasTakenEntry}
use Rattle.send_command.proofs.Apart.{not_video, refused_by}
use Rattle.send_command.proofs.Held.{no_frame_held, not_an_err}

abbrev pub CutFrames : Type 0
CutFrames = (f : Format) (at k : ℕ) (rest planes : List ℕ) → frame_of f at rest ≡ Ok planes → frame_size f rest ≤ k
    → (frame_of f at (take k rest) ≡ Ok planes) × (frame_size f (take k rest) ≡ frame_size f rest)

-- ---- a part of a frame holds no turn

next_is : (n : ℕ) (f : Format) (at : ℕ) (rest frame : List ℕ) → next_frame n f at rest ≡ Ok frame
    → frame_of f at rest ≡ Ok frame
next_is zero f at rest frame is = absurd (cc is)
next_is (suc n) f at rest frame is = is

-- the bytes of a capture, and this many of its frame
abbrev some_of : ℕ → Role → ℕ
some_of n = and_of (of Events 3) (of Video n)

frame_held : (texts : Role → List ℕ) (size n : ℕ) → (size ≤ n → ⊥)
    → holds (record { taken = some_of size; whole = true; texts = texts }) (some_of n) ≡ false
frame_held texts size n few = no_frame_held (record { taken = some_of size; whole = true; texts = texts }) (some_of n)
    (λ (whole : 0 + size ≤ 0 + n). few (omega (arith, whole)))

frame_part : CutFrames → (s : SendState) (video : List ℕ) (n : ℕ) (r : Result (List ℕ) Y4mFault)
    → next_frame s.more s.params.format s.video_at video ≡ r
    → IsErr (frame_of s.params.format s.video_at (take n video))
    → IsPart (step_turns (sender_frame_step s (frame_size s.params.format video) r)) (some_of n)
frame_part cut s video n (Ok frame) is lost =
    frame_held (capture_texts s.params (captured s.params.format frame) s.sent) (frame_size s.params.format video) n
    (λ whole. not_an_err _ frame (cut s.params.format s.video_at n video frame
    (next_is s.more s.params.format s.video_at video frame is) whole).0 lost)
frame_part cut s video n (Err fault) is lost = tt

video_part : CutFrames → (s : SendState) (video : List ℕ) (n : ℕ)
    → IsErr (frame_of s.params.format s.video_at (take n video))
    → IsPart (step_turns (entry_capture_step s video)) (some_of n)
video_part cut s [] n lost = tt
video_part cut s (b ∷ rest) n lost = frame_part cut s (b ∷ rest) n (next_frame s.more s.params.format s.video_at
    (b ∷ rest)) refl lost

-- ---- which step it is

video_next : (s : SendState) (video : List ℕ) (r : Result (List ℕ) Y4mFault) → 0 < length video
    → next_frame s.more s.params.format s.video_at video ≡ r
    → entry_capture_step s video ≡ sender_frame_step s (frame_size s.params.format video) r
video_next s [] r some is = absurd (omega arith)
video_next s (b ∷ rest) r some is = ap (sender_frame_step s (frame_size s.params.format (b ∷ rest))) is

-- ---- the capture

-- the reader is where the state says
pub record IsVideoAt (s : SendState) (reader : Y4mPlace) : Type 0 where
  pub format : s.params.format ≡ reader.format
  pub at_is : s.video_at ≡ reader.at
  pub more_is : s.more ≡ reader.more

module _ (laws : TurnLaws) (cut : CutFrames) (s : SendState) (inputs : Role → List ℕ) (before old mid : Outside)
    (taken : HasTakenEntry 3 inputs before old) (others : (r : Role) → r ≢ Video
    → mid.left r ≡ old.left r) (same : mid.written ≡ old.written) (reader after : Y4mPlace) (at : IsVideoAt s reader)
    (out : List ℕ) where
  video_told : (k : ℕ) → mid.left Video ≡ Some (drop k (inputs Video))
      → Tells mid (left_after inputs (and_of (of Events 3) (of Video k)))
  video_told k gone = laws.both_reads (of Events 3) (of Video k) mid inputs
      (laws.one_read Video k old mid (left_after inputs (of Events 3)) taken.left gone others)

  -- the frame by the state's place
  next_at : (r : Result (List ℕ) Y4mFault) → next_frame reader.more reader.format reader.at (inputs Video) ≡ r
      → next_frame s.more s.params.format s.video_at (inputs Video) ≡ r
  next_at r is = (λ i. next_frame (at.more_is i) (at.format i) (at.at_is i) (inputs Video)) ∙ is

  pub frame_stops : (stop : VideoStop) → FrameGives (Err stop) reader (inputs Video) out after (mid.left Video)
      → GivesUp (phase (video_stop stop)) (video_stop stop) (entry_capture_step s (inputs Video)) true inputs before mid
  frame_stops Read e = record {
    part = some_of e.0;
    partly = video_part cut s (inputs Video) e.0
        (subst IsErr (λ i. frame_of (sym at.format i) (sym at.at_is i) (take e.0 (inputs Video))) e.2);
    could = refl;
    left = video_told e.0 e.1;
    written = same ∙ taken.written;
  }
  frame_stops (Refused fault) e =
      record {
        last = refused_sender_video 3 fault;
        is = video_next s (inputs Video) (Err fault) e.0 (next_at (Err fault) e.1);
        by =
            refused_by laws Video (of Events 3) (VideoRefused fault) inputs before mid
            (λ r input other. others r (not_video r other) ∙ taken.left r input) (same ∙ taken.written);
      }

  pub frame_missing : (place : ℕ) → place ≡ s.at
      → FrameGives (Ok false) reader (inputs Video) out after (mid.left Video)
      → Ended (entry_capture_step s (inputs Video)) (LogRefused (NoFrame place)) inputs before mid
  frame_missing place is e = record {
    last = no_frame s.at;
    is = ap (entry_capture_step s) e.0;
    by =
        subst (λ (n : ℕ). EndsBy (no_frame s.at) (LogRefused (NoFrame n)) inputs before mid) (sym is)
        (laws.ends (LogRefused (NoFrame s.at)) (of Events 3) no_texts inputs before mid
        (laws.none_read Video old mid (left_after inputs (of Events 3)) taken.left e.0 e.1 others)
        (laws.no_text before.written mid.written (same ∙ taken.written)));
  }

  -- after a frame
  module _ (e : FrameGives (Ok true) reader (inputs Video) out after (mid.left Video)) (new : Outside) (texts : Role
      → List ℕ) (text_is : texts ≡ capture_texts s.params (captured s.params.format out) s.sent) where
    abbrev size : ℕ
    size = frame_size s.params.format (inputs Video)

    frame_is : entry_capture_step s (inputs Video) ≡ sender_frame_step s size (Ok out)
    frame_is = video_next s (inputs Video) (Ok out) e.0 (next_at (Ok out) e.1)

    gone : mid.left Video ≡ Some (drop size (inputs Video))
    gone = e.3 ∙ ap (λ (f : Format). Some (drop (frame_size f (inputs Video)) (inputs Video))) (sym at.format)

    pub place_is : after.at ≡ s.video_at + size
    place_is = e.2 ∙ (λ i. sym at.at_is i + frame_size (sym at.format i) (inputs Video))

    unchanged : before.written ≡ mid.written
    unchanged = sym (same ∙ taken.written)

    pub capture_cut : GainsFronts texts mid.written new.written
        → GainsFronts (step_texts (entry_capture_step s (inputs Video))) before.written new.written
    capture_cut g =
        subst (λ (x : Step SendState). GainsFronts (step_texts x) before.written new.written) (sym frame_is)
        (subst (λ (t : Role → List ℕ). GainsFronts t before.written new.written) text_is
        (subst (λ (w : Role → Option (List ℕ)). GainsFronts texts w new.written) (sym unchanged) g))

    pub captures : (stands : SendState → (Role → List ℕ) → Type 0)
        → stands (after_captured_frame s size (captured s.params.format out))
        (left_after inputs (and_of (of Events 3) (of Video size))) → new.left ≡ mid.left
        → Gains texts mid.written new.written
        → Went (entry_capture_step s (inputs Video)) stands (λ _. true) true inputs before new
    captures stands kept still g = record {
      next = after_captured_frame s size (captured s.params.format out);
      turn = record {
        taken = and_of (of Events 3) (of Video size);
        whole = true;
        texts = capture_texts s.params (captured s.params.format out) s.sent;
      };
      could = refl;
      is = frame_is;
      kept = kept;
      whole = refl;
      left = λ r input. ap (λ (l : Role → Option (List ℕ)). l r) still ∙ video_told size gone r input;
      written =
          subst (λ (t : Role → List ℕ). Gains t before.written new.written) text_is
          (subst (λ (w : Role → Option (List ℕ)). Gains texts w new.written) (sym unchanged) g);
    }

-- what the reader says, by what it answered
pub gave : (b known : Bool) (reader after : Y4mPlace) (rest out : List ℕ) (left : Option (List ℕ)) → b ≡ known
    → FrameGives (Ok b) reader rest out after left → FrameGives (Ok known) reader rest out after left
gave b known reader after rest out left is gives = subst (λ (x : Bool). FrameGives (Ok x) reader rest out after left) is
    gives

pub moved : (b known : Bool) (reader after : Y4mPlace) → b ≡ known → MovesVideo (Ok b) reader after
    → MovesVideo (Ok known) reader after
moved b known reader after is moves = subst (λ (x : Bool). MovesVideo (Ok x) reader after) is moves

-- a buffer that was lent whole holds what was put there
pub lent : (v : Vec ℕ Global) (l got : List ℕ) (n : ℕ) → got ≡ (with_items v l).items → length l ≡ n → n ≡ v.len
    → got ≡ l
lent v l got n is long whole = is ∙ with_items_is v l (omega (arith, long, whole, v.ok.0))

pub whole_still : (v : Vec ℕ Global) (l : List ℕ) (n : ℕ) (f g : Format) → length v.items ≡ size_of_picture f
    → length l ≡ n → n ≡ v.len → g ≡ f → length (with_items v l).items ≡ size_of_picture g
whole_still v l n f g whole same long format =
    ap (λ (l : List ℕ). length l) (with_items_is v l (omega (arith, same, long, v.ok.0)))
    ∙ omega (arith, same, long, v.ok.0, whole, ap size_of_picture format)

pub one_less : (more old_more sent new_sent : ℕ) → old_more + sent ≡ most_frames → more + 1 ≡ old_more
    → new_sent ≡ sent + 1 → more + new_sent ≡ most_frames
one_less more old_more sent new_sent all less next = omega (arith, all, less, next)
