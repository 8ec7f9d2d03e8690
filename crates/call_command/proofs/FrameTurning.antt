-- The turns of a call over its plain trace, by what the reader of the video says and what was written.
use Rattle.std.proofs.Common.{◌≡◌, ◌≢◌, ℕ, zero, suc, ◌+◌, ◌-◌, ◌<◌, ◌≤◌, Bool, true, false, not, List, [], ◌∷◌, length, take, drop, Option, Some, Result, Ok, Err, IsErr, IsErrAnd, refl, sym, ap, ◌∙◌, subst, arith, Global}
use Rattle.std.specs.Prelude.{◌&&◌, nat_le}
use Rattle.std.specs.declared.vec.Vec.{Vec}
use Rattle.std.specs.Vec.{with_items}
use Rattle.std.proofs.lemmas.List.{with_items_is}
use Rattle.h263_outside.specs.Desk.{Faults, Outside}
use Rattle.h263_outside.specs.declared.desk.Role.{Role}
use Rattle.h263_outside.specs.declared.desk.Role.TheVariants.{Video, Pictures, Report}
use Rattle.h263_types.specs.declared.format.Format.{Format}
use Rattle.y4m.specs.declared.fault.Y4mFault.{Y4mFault}
use Rattle.y4m.specs.declared.fault.VideoStop.{VideoStop}
use Rattle.y4m.specs.declared.fault.VideoStop.TheVariants.{Read, Refused}
use Rattle.y4m.specs.Place.{Y4mPlace}
use Rattle.y4m.specs.Head.{head_of, head_size}
use Rattle.y4m.specs.Frame.{frame_of, next_frame, frame_size}
use Rattle.y4m.specs.Reader.{HeadGives, FrameGives}
use Rattle.y4m.specs.Text.{head_text}
use Rattle.call_report.specs.declared.status.Status.{Status}
use Rattle.call_report.specs.declared.status.Status.TheVariants.{Ok as Fine, OutOfMemory, WriteFault, VideoRefused}
use Rattle.call_report.specs.Status.{phase, video_stop}
use Rattle.desk_program.specs.Run.{Step, left_after, video_refusal}
use Rattle.desk_program.specs.Run.Step.{Ends}
use Rattle.desk_program.specs.Ends.{Tells, Gains, GainsFronts, IsPart, Went, Ended, GivesUp, HasCause, StartGives, start_status, step_texts, step_turns}
use Rattle.desk_program.specs.Texts.{no_bytes, on, of}
use Rattle.desk_program.specs.Laws.{TurnLaws}
use Rattle.call_command.specs.declared.terms.Terms.{Terms}
use Rattle.call_command.specs.Call.{CallState, all_played, by_ends, call_begin, call_at_start, frame_step, head_step, may_read, play_texts, video_step, with_format, with_whole_frame}
use Rattle.call_command.specs.Counts.{call_text}
use Rattle.call_command.specs.Laws.{VideoLaws}
use Rattle.call_command.proofs.Lines.{not_held}

-- ---- what was taken holds no whole head or frame

part_of : (size k : ℕ) → (size ≤ k → ⊥) → (true && nat_le size k && true && true) ≡ false
part_of size k few = ap (λ (b : Bool). true && b && true && true) (not_held size k few)

pub not_an_err : {T E : Type 0} (r : Result T E) (x : T) → r ≡ Ok x → IsErr r → ⊥
not_an_err {T} {E} r x is lost = ok_is_none x (subst IsErr is lost)
  where
    ok_is_none : (x : T) → IsErr {T = T} {E = E} (Ok x) → ⊥
    ok_is_none x lost = absurd (cc lost)

pub next_is : (n : ℕ) (f : Format) (at : ℕ) (rest frame : List ℕ) → next_frame n f at rest ≡ Ok frame
    → frame_of f at rest ≡ Ok frame
next_is zero f at rest frame is = absurd (cc is)
next_is (suc n) f at rest frame is = is

module _ (laws : VideoLaws) where
  head_part : (t : Terms) (video : List ℕ) (k : ℕ) (r : Result Format Y4mFault) → head_of video ≡ r
      → IsErr (head_of (take k video)) → IsPart (step_turns (head_step t video r)) (of Video k)
  head_part t video k (Ok f) is lost = part_of (head_size video) k
      (λ le. not_an_err _ f (laws.head video f k is le).0 lost)
  head_part t video k (Err fault) is lost = tt

  frame_part : (s : CallState) (video : List ℕ) (k : ℕ) (r : Result (List ℕ) Y4mFault)
      → next_frame s.more s.params.format s.at video ≡ r → IsErr (frame_of s.params.format s.at (take k video))
      → IsPart (step_turns (frame_step by_ends s video r)) (of Video k)
  frame_part s video k (Ok frame) is lost =
      part_of (frame_size s.params.format video) k
      (λ le. not_an_err _ frame (laws.frame s.params.format s.at k video frame
      (next_is s.more s.params.format s.at video frame is) le).0 lost)
  frame_part s video k (Err fault) is lost = tt

  video_part : (s : CallState) (video : List ℕ) (k : ℕ) → IsErr (frame_of s.params.format s.at (take k video))
      → IsPart (step_turns (video_step by_ends s video)) (of Video k)
  video_part s [] k lost = tt
  video_part s (b ∷ rest) k lost = frame_part s (b ∷ rest) k (next_frame s.more s.params.format s.at (b ∷ rest))
      refl lost

video_next : (s : CallState) (video : List ℕ) (r : Result (List ℕ) Y4mFault) → 0 < length video
    → next_frame s.more s.params.format s.at video ≡ r → video_step by_ends s video ≡ frame_step by_ends s video r
video_next s [] r some is = absurd (omega arith)
video_next s (b ∷ rest) r some is = ap (frame_step by_ends s (b ∷ rest)) is

-- a buffer that was lent whole holds what was put there
pub lent : (v : Vec ℕ Global) (l got : List ℕ) (n : ℕ) → got ≡ (with_items v l).items → length l ≡ n → n ≡ v.len
    → got ≡ l
lent v l got n is long whole = is ∙ with_items_is v l (omega (arith, long, whole, v.ok.0))

-- what the reader of a frame says, for a state that has its format, place and count
abbrev pub Gives : Result Bool VideoStop → CallState → List ℕ → List ℕ → Y4mPlace → Option (List ℕ) → Type 0
Gives (Ok true) s rest out new left =
    (0 < length rest) × (next_frame s.more s.params.format s.at rest ≡ Ok out)
    × (new.at ≡ s.at + frame_size s.params.format rest)
    × (left ≡ Some (drop (frame_size s.params.format rest) rest))
Gives (Ok false) s rest out new left = (rest ≡ []) × (left ≡ Some [])
Gives (Err (Refused fault)) s rest out new left = (0 < length rest) × (next_frame s.more s.params.format s.at rest
    ≡ Err fault)
Gives (Err Read) s rest out new left = (k : ℕ) × (left ≡ Some (drop k rest))
    × IsErr (frame_of s.params.format s.at (take k rest))

pub gives_so : (r : Result Bool VideoStop) (s : CallState) (reader new : Y4mPlace) (rest out : List ℕ)
    (left : Option (List ℕ))
    → s.more ≡ reader.more → s.at ≡ reader.at → reader.format ≡ s.params.format → FrameGives r reader rest out new left
    → Gives r s rest out new left
gives_so (Ok true) s reader new rest out left more at format (some, is, place, gone) = (
  some,
  (λ i. next_frame (more i) (sym format i) (at i) rest) ∙ is,
  place ∙ (λ i. sym at i + frame_size (format i) rest),
  gone ∙ ap (λ (f : Format). Some (drop (frame_size f rest) rest)) format,
)
gives_so (Ok false) s reader new rest out left more at format gives = gives
gives_so (Err (Refused fault)) s reader new rest out left more at format (some, is) =
    (some, (λ i. next_frame (more i) (sym format i) (at i) rest) ∙ is)
gives_so (Err Read) s reader new rest out left more at format (k, gone, lost) = (
  k,
  gone,
  subst (λ (f : Format). IsErr (frame_of f s.at (take k rest))) format
      (subst (λ (a : ℕ). IsErr (frame_of reader.format a (take k rest))) (sym at) lost),
)

-- the same where its answer is known
pub given_so : (r known : Result Bool VideoStop) (s : CallState) (reader new : Y4mPlace) (rest out : List ℕ)
    (left : Option (List ℕ)) → r ≡ known
    → s.more ≡ reader.more → s.at ≡ reader.at → reader.format ≡ s.params.format → FrameGives r reader rest out new left
    → Gives known s rest out new left
given_so r known s reader new rest out left is more at format gives =
    gives_so known s reader new rest out left more at format
    (subst (λ (x : Result Bool VideoStop). FrameGives x reader rest out new left) is gives)

-- ---- what gives up

pub start_gives : {Machine : Type 0} (r : Result Machine Status) (status : Status) (step : Step CallState)
    (after : Machine → CallState → (Role → List ℕ) → Type 0) (reads : CallState → Bool) (inputs : Role
    → List ℕ) (old new : Outside)
    → IsErrAnd r (λ x. x ≡ status) → GivesUp (phase status) status step true inputs old new
    → StartGives r step after reads inputs old new
start_gives (Ok m) status step after reads inputs old new is gives = absurd is
start_gives (Err x) status step after reads inputs old new is gives =
    subst (λ (y : Status). GivesUp (phase y) y step true inputs old new) (sym is) gives

-- a start for which there was no memory, where no call had failed
pub starved_cause : {Machine : Type 0} (r : Result Machine Status) (old new : Faults)
    → IsErrAnd r (λ x. x ≡ OutOfMemory) → new ≡ old → HasCause (start_status r) old new
starved_cause (Ok m) old new is quiet = absurd is
starved_cause (Err x) old new is quiet = subst (λ (y : Status). HasCause y old new) (sym is) quiet

-- a write that failed
pub cut_gives : (status : Status) (step : Step CallState) (now : Bool) (inputs : Role → List ℕ) (old new : Outside)
    → status ≡ WriteFault → GainsFronts (step_texts step) old.written new.written
    → GivesUp (phase status) status step now inputs old new
cut_gives status step now inputs old new is fronts = subst (λ (y : Status). GivesUp (phase y) y step now inputs old new)
    (sym is) fronts

-- ---- a turn over a desk: it was read from old to mid, and written from mid to new

module _ (turns : TurnLaws) (laws : VideoLaws) (inputs : Role → List ℕ) (old mid : Outside) (told : Tells old inputs)
    (others : (r : Role) → r ≢ Video → mid.left r ≡ old.left r) (same : mid.written ≡ old.written) where
  pub head_stops : (t : Terms) (stop : VideoStop) → HeadGives (Err stop) (inputs Video) (mid.left Video)
      → GivesUp (phase (video_stop stop)) (video_stop stop) (call_begin t inputs) true inputs old mid
  head_stops t Read e = record {
    part = of Video e.0;
    partly = head_part laws t (inputs Video) e.0 (head_of (inputs Video)) refl e.2;
    could = refl;
    left = turns.one_read Video e.0 old mid inputs told e.1 others;
    written = same;
  }
  head_stops t (Refused fault) e =
      record {
        last = video_refusal Video no_bytes (VideoRefused fault);
        is = ap (head_step t (inputs Video)) e;
        by = turns.refuses_video Video no_bytes (VideoRefused fault) inputs old mid (λ r input other. others r other
            ∙ told r input) same;
      }

  pub frame_stops : (s : CallState) → s.ended ≡ false → (stop : VideoStop) (out : List ℕ) (reader : Y4mPlace)
      → Gives (Err stop) s (inputs Video) out reader (mid.left Video)
      → GivesUp (phase (video_stop stop)) (video_stop stop) (video_step by_ends s (inputs Video))
      (may_read s) inputs old mid
  frame_stops s going Read out reader e = record {
    part = of Video e.0;
    partly = video_part laws s (inputs Video) e.0 e.2;
    could = ap not going;
    left = turns.one_read Video e.0 old mid inputs told e.1 others;
    written = same;
  }
  frame_stops s going (Refused fault) out reader e =
      record {
        last = video_refusal Video no_bytes (VideoRefused fault);
        is = video_next s (inputs Video) (Err fault) e.0 e.1;
        by = turns.refuses_video Video no_bytes (VideoRefused fault) inputs old mid (λ r input other. others r other
            ∙ told r input) same;
      }

  module _ (new : Outside) (still : new.left ≡ mid.left) where
    -- ---- the end of the video

    module _ (s : CallState) (out : List ℕ) (reader : Y4mPlace) (e : Gives (Ok false) s (inputs Video) out reader
        (mid.left Video)) where
      end_is : video_step by_ends s (inputs Video) ≡ Ends (all_played (by_ends s))
      end_is = ap (video_step by_ends s) e.0

      pub video_ends : (text : List ℕ) → text ≡ call_text (by_ends s) → Gains (on Report text) mid.written new.written
          → Ended (video_step by_ends s (inputs Video)) Fine inputs old new
      video_ends text is gains =
          let read = turns.none_read Video old mid inputs told e.0 e.1 others in
          record {
            last = all_played (by_ends s);
            is = end_is;
            by = turns.ends Fine no_bytes (on Report (call_text (by_ends s))) inputs old new
                (λ r input. ap (λ (l : Role → Option (List ℕ)). l r) still ∙ read r input)
                (subst (λ (w : Role → Option (List ℕ)). Gains (on Report (call_text (by_ends s))) w new.written) same
                (subst (λ (l : List ℕ). Gains (on Report l) mid.written new.written) is gains));
          }

      pub end_cut : (text : List ℕ) → text ≡ call_text (by_ends s)
          → GainsFronts (on Report text) mid.written new.written
          → GainsFronts (step_texts (video_step by_ends s (inputs Video))) old.written new.written
      end_cut text is gains =
          subst (λ (x : Step CallState). GainsFronts (step_texts x) old.written new.written) (sym end_is)
          (subst (λ (w : Role → Option (List ℕ)). GainsFronts (on Report (call_text (by_ends s))) w new.written) same
          (subst (λ (l : List ℕ). GainsFronts (on Report l) mid.written new.written) is gains))

    -- ---- a frame

    module _ (s : CallState) (going : s.ended ≡ false) (out : List ℕ) (reader : Y4mPlace)
        (e : Gives (Ok true) s (inputs Video) out reader (mid.left Video)) (texts : Role → List ℕ) (texts_are : texts
        ≡ play_texts (by_ends (with_whole_frame by_ends s out)) (length s.frames)) where
      abbrev size : ℕ
      size = frame_size s.params.format (inputs Video)

      frame_is : video_step by_ends s (inputs Video) ≡ frame_step by_ends s (inputs Video) (Ok out)
      frame_is = video_next s (inputs Video) (Ok out) e.0 e.1

      pub frame_cut : GainsFronts texts mid.written new.written
          → GainsFronts (step_texts (video_step by_ends s (inputs Video))) old.written new.written
      frame_cut gains =
          subst (λ (x : Step CallState). GainsFronts (step_texts x) old.written new.written) (sym frame_is)
          (subst (λ (w : Role → Option (List ℕ)). GainsFronts (play_texts (by_ends (with_whole_frame by_ends s out))
          (length s.frames)) w new.written) same
          (subst (λ (t : Role → List ℕ). GainsFronts t mid.written new.written) texts_are gains))

      pub frame_goes : (stands : CallState → (Role → List ℕ) → Type 0)
          → stands (record (with_whole_frame by_ends s out) { at = s.at + size; more = s.more - 1 })
          (left_after inputs (of Video size))
          → Gains texts mid.written new.written
          → Went (video_step by_ends s (inputs Video)) stands may_read (may_read s) inputs old new
      frame_goes stands kept gains = record {
        next = record (with_whole_frame by_ends s out) { at = s.at + size; more = s.more - 1 };
        turn = record {
          taken = of Video size;
          whole = true;
          texts = play_texts (by_ends (with_whole_frame by_ends s out)) (length s.frames);
        };
        could = ap not going;
        is = frame_is;
        kept = kept;
        whole = sym (ap not going);
        left = turns.one_read Video size old new inputs told (ap (λ (l : Role → Option (List ℕ)). l Video) still
            ∙ e.3) (λ r other. ap (λ (l : Role → Option (List ℕ)). l r) still ∙ others r other);
        written = subst (λ (w : Role → Option (List ℕ)). Gains (play_texts (by_ends (with_whole_frame by_ends s out))
            (length s.frames)) w new.written) same (subst (λ (t : Role → List ℕ). Gains t mid.written new.written)
            texts_are gains);
      }

    -- ---- the head

    module _ (t : Terms) (f : Format) (is : head_of (inputs Video) ≡ Ok f) (gone : mid.left Video
        ≡ Some (drop (head_size (inputs Video)) (inputs Video))) where
      head_is : call_begin t inputs ≡ head_step t (inputs Video) (Ok f)
      head_is = ap (head_step t (inputs Video)) is

      pub head_cut : GainsFronts (on Pictures (head_text f)) mid.written new.written
          → GainsFronts (step_texts (call_begin t inputs)) old.written new.written
      head_cut gains =
          subst (λ (x : Step CallState). GainsFronts (step_texts x) old.written new.written) (sym head_is)
          (subst (λ (w : Role → Option (List ℕ)). GainsFronts (on Pictures (head_text f)) w new.written) same gains)

      abbrev first : CallState
      first = call_at_start (with_format t f) [] (head_size (inputs Video))

      pub head_goes : (stands : CallState → (Role → List ℕ) → Type 0)
          → stands first (left_after inputs (of Video (head_size (inputs Video))))
          → Gains (on Pictures (head_text f)) mid.written new.written
          → Went (call_begin t inputs) stands may_read true inputs old new
      head_goes stands kept gains = record {
        next = first;
        turn = record { taken = of Video (head_size (inputs Video)); whole = true; texts = on Pictures (head_text f) };
        could = refl;
        is = head_is;
        kept = kept;
        whole = refl;
        left = turns.one_read Video (head_size (inputs Video)) old new inputs told
            (ap (λ (l : Role → Option (List ℕ)). l Video) still
            ∙ gone) (λ r other. ap (λ (l : Role → Option (List ℕ)). l r) still ∙ others r other);
        written = subst (λ (w : Role → Option (List ℕ)). Gains (on Pictures (head_text f)) w new.written) same gains;
      }
