-- What holds of a call by both ends, of a video, and of the turns of lines.
use Rattle.std.specs.Prelude.{◌≡◌, ◌≢◌, ℕ, ◌+◌, ◌≤◌, ◌<◌, true, false, List, [], ◌∷◌, length, take, drop, Some, None, Ok}
use Rattle.h263_outside.specs.Desk.{Outside}
use Rattle.h263_outside.specs.declared.desk.Role.{Role}
use Rattle.h263_outside.specs.declared.desk.Role.TheVariants.{Events, Video}
use Rattle.h263_types.specs.declared.format.Format.{Format}
use Rattle.y4m.specs.Head.{head_of, head_size}
use Rattle.y4m.specs.Frame.{frame_of, frame_size}
use Rattle.h263_outside.specs.Lines.{NoNewline}
use Rattle.loss_trace.specs.Lines.{later_lines, is_closed}
use Rattle.loss_trace.specs.Reader.{IsOver}
use Rattle.loss_trace.specs.declared.fault.TraceFault.{TraceFault}
use Rattle.loss_trace.specs.Place.{TracePlace}
use Rattle.loss_trace.specs.Reading.{event_in}
use Rattle.call_report.specs.declared.status.Status.TheVariants.{Ok as Fine, TraceRefused}
use Rattle.call_model.specs.Coding.{Rules}
use Rattle.call_model.specs.IdealCall.{Send, Deliver, Play}
use Rattle.call_model.specs.Refusals.{NoFrame, Refusal, first_refusal}
use Rattle.desk_program.specs.Ends.{EndsBy, Gains, IsPart, Tells, holds}
use Rattle.desk_program.specs.Run.{Turn, left_after, machine_run}
use Rattle.desk_program.specs.Texts.{and_of, no_texts, of}
use Rattle.call_command.specs.declared.terms.Terms.{Terms}
use Rattle.call_command.specs.Call.{bad_line, call_step, call_at_start, line_size, refused_line, talk_step}
use Rattle.call_command.specs.Standing.{HasTaken, ReadsTrace}

-- from the first state on, with a receiver that had heard nothing, the call by both ends is the ideal
-- call: the same turns, and the same end
abbrev pub TalkIsTheCall : Terms → Type 0
TalkIsTheCall t =
    (at turns : ℕ) (inputs : Role → List ℕ)
    → machine_run talk_step turns (call_at_start t [] at) inputs
    ≡ machine_run call_step turns (call_at_start t [] at) inputs

-- a whole head or frame stays what it is where the text after it is cut
pub record VideoLaws : Type 0 where
  pub head : (video : List ℕ) (f : Format) (k : ℕ) → head_of video ≡ Ok f → head_size video ≤ k
      → (head_of (take k video) ≡ Ok f) × (head_size (take k video) ≡ head_size video)
  pub frame : (f : Format) (at k : ℕ) (rest planes : List ℕ) → frame_of f at rest ≡ Ok planes → frame_size f rest ≤ k
      → (frame_of f at (take k rest) ≡ Ok planes) × (frame_size f (take k rest) ≡ frame_size f rest)

-- How many frames there are to be sent matters to a capture alone. One that is refused where a frame
-- is left is refused for its distance, and so however many there are; another one has no frame where all
-- were sent.
pub record FramesLeft : Type 0 where
  pub packet : (rules : Rules) (n j a b sent played : ℕ) (abouts : List ℕ)
      → first_refusal rules a sent played abouts (Deliver n j) ≡ first_refusal rules b sent played abouts (Deliver n j)
  pub play : (rules : Rules) (a b sent played : ℕ) (abouts : List ℕ)
      → first_refusal rules a sent played abouts Play ≡ first_refusal rules b sent played abouts Play
  pub far : (rules : Rules) (left sent played : ℕ) (abouts : List ℕ) (r : Refusal)
      → first_refusal rules (sent + 1) sent played abouts Send ≡ Some r
      → first_refusal rules left sent played abouts Send ≡ Some r
  pub distance : (rules : Rules) (sent played : ℕ) (abouts : List ℕ) (r : Refusal)
      → first_refusal rules (sent + 1) sent played abouts Send ≡ Some r → r ≢ NoFrame
  pub out : (rules : Rules) (left sent played : ℕ) (abouts : List ℕ) → left ≤ sent
      → first_refusal rules (sent + 1) sent played abouts Send ≡ None
      → first_refusal rules left sent played abouts Send ≡ Some NoFrame

-- ---- the turns of lines, whatever a machine keeps in mind

-- the turn takes the first line, which shows by its newline where it ends
abbrev pub CoversLine : List ℕ → List Turn → Type 0
CoversLine trace [] = Unit {0}
CoversLine trace (turn ∷ turns) = (turn.whole ≡ is_closed trace) × (line_size trace ≤ turn.taken Events)

-- the turn of a line whose frame is sent
abbrev pub capture_turn : List ℕ → ℕ → Turn
capture_turn trace size =
    record {
      taken = and_of (of Events (line_size trace)) (of Video size);
      whole = is_closed trace;
      texts = no_texts;
    }

-- the trace is read out: with this text the call ends
pub record IsPlayedOut (inputs : Role → List ℕ) (old mid new : Outside) : Type 0 where
  pub nothing : inputs Events ≡ []
  pub told : Tells new inputs
  pub ends : (texts : Role → List ℕ) → Gains texts mid.written new.written
      → EndsBy (record { status = Fine; taken = λ _. Some 0; texts = texts }) Fine inputs old new

pub record LineLaws : Type 0 where
  -- a text of more than 17 bytes says no event
  pub long : (text : List ℕ) → 17 < length text → event_in text ≡ None
  -- what stands after the first line: nothing where it has no newline
  pub gone : (trace : List ℕ) → drop (line_size trace) trace ≡ later_lines trace
  pub last : (trace : List ℕ) → is_closed trace ≡ false → drop (line_size trace) trace ≡ []
  -- bytes without a newline hold no turn, and neither does the line with a part of its frame
  pub line_part : (trace : List ℕ) (k : ℕ) (turns : List Turn) → NoNewline (take k trace)
      → CoversLine trace turns → IsPart turns (of Events k)
  pub frame_part : (trace : List ℕ) (size k : ℕ) → (size ≤ k → ⊥)
      → holds (capture_turn trace size) (and_of (of Events (line_size trace)) (of Video k)) ≡ false
  -- this many bytes of the trace were read, or its first line
  pub some : (inputs : Role → List ℕ) (old mid : Outside) (k : ℕ) → ReadsTrace inputs old mid
      → mid.left Events ≡ Some (drop k (inputs Events)) → Tells mid (left_after inputs (of Events k))
  pub line : (inputs : Role → List ℕ) (old mid : Outside) → ReadsTrace inputs old mid
      → mid.left Events ≡ Some (later_lines (inputs Events)) → HasTaken inputs old mid
  -- a line that says an event which is refused, and one that says none or is one too many
  pub refused : (fault : TraceFault) (inputs : Role → List ℕ) (old mid : Outside) → HasTaken inputs old mid
      → EndsBy (refused_line (inputs Events) fault) (TraceRefused fault) inputs old mid
  pub bad : (fault : TraceFault) (inputs : Role → List ℕ) (old mid : Outside) → ReadsTrace inputs old mid
      → EndsBy (bad_line fault) (TraceRefused fault) inputs old mid
  -- no line is left: the trace was read out before, or is now
  pub over : (reader : TracePlace) (inputs : Role → List ℕ) (old mid new : Outside) → ReadsTrace inputs old mid
      → IsOver reader (inputs Events) (mid.left Events) → (reader.ended ≡ true → inputs Events ≡ [])
      → new.left ≡ mid.left → IsPlayedOut inputs old mid new
