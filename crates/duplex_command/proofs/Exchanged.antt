-- What a line of the second party says is done as it is for the first, with both exchanged.
use Rattle.std.proofs.Common.{◌+◌, ◌≡◌, ℕ, List, [], ◌∷◌, Option, Some, None, Result, Ok, Err, refl, ap}
use mathlib.Core.Path.{fun_ext}
use Rattle.std.specs.Prelude.{if◌then◌else◌}
use Rattle.h263_outside.specs.Desk.{exchanged, is_role}
use Rattle.h263_outside.specs.declared.desk.Role.{Role}
use Rattle.h263_outside.specs.declared.desk.Role.TheVariants.{Video, Events, Pictures, Wire, Report, Video2, Pictures2}
use Rattle.y4m.specs.declared.fault.Y4mFault.{Y4mFault}
use Rattle.y4m.specs.Frame.{frame_size, next_frame}
use Rattle.loss_trace.specs.Lines.{is_closed}
use Rattle.loss_trace.specs.declared.event.Event.{Event as Line}
use Rattle.loss_trace.specs.declared.event.Event.TheVariants as says
use Rattle.call_report.specs.declared.status.Status.{Status}
use Rattle.call_report.specs.declared.status.Status.TheVariants.{TraceRefused, VideoRefused, Video2Refused}
use Rattle.call_model.specs.Coding.{Shown}
use Rattle.call_model.specs.IdealCall.{Event, Send, Deliver, Play}
use Rattle.call_model.specs.Refusals.{Refusal}
use Rattle.call_encoding.specs.Frames.{Frame}
use Rattle.h263_planes.specs.Picture.{Picture}
use Rattle.desk_program.specs.Run.{End, Step}
use Rattle.desk_program.specs.Run.Step.{Goes, Ends}
use Rattle.desk_program.specs.Texts.{and_of, no_texts, of}
use Rattle.call_command.specs.Call.{line_size, line_turn, refused_line, unless_refused}
use Rattle.loss_trace.specs.declared.fault.TraceFault.{TraceFault}
use Rattle.duplex_call.specs.declared.line.Party.{Party}
use Rattle.duplex_call.specs.Duplex.{WayRuns}
use Rattle.call_command.specs.Rows.{newest_texts}
use Rattle.duplex_command.specs.Duplex.{letter_of, DuplexState, after_party_line, party_capture_step, party_captured_step, party_event_step, video_place_of, party_play_texts, quiet_party_step, party_refusal, seen_of, with_party_frame, with_next}
use Rattle.duplex_command.specs.Exchange.{for_second, second_step}

-- ---- role by role

pub line_taken : (n : ℕ) → for_second (of Events n) ≡ of Events n
line_taken n = fun_ext by_role
  where
    by_role : (r : Role) → of Events n (exchanged r) ≡ of Events n r
    by_role Video = refl
    by_role Events = refl
    by_role Pictures = refl
    by_role Wire = refl
    by_role Report = refl
    by_role Video2 = refl
    by_role Pictures2 = refl

frame_taken : (n m : ℕ) → for_second (and_of (of Events n) (of Video m)) ≡ and_of (of Events n) (of Video2 m)
frame_taken n m = fun_ext by_role
  where
    by_role : (r : Role) → and_of (of Events n) (of Video m) (exchanged r) ≡ and_of (of Events n) (of Video2 m) r
    by_role Video = refl
    by_role Events = refl
    by_role Pictures = refl
    by_role Wire = refl
    by_role Report = refl
    by_role Video2 = refl
    by_role Pictures2 = refl

shown_texts : (x : Party) (n : ℕ) (reference : Option ℕ) (plays : List (Shown Picture))
    → for_second (newest_texts Pictures (Some (letter_of x)) n reference plays) ≡ newest_texts Pictures2
    (Some (letter_of x)) n reference plays
shown_texts x n reference [] = refl
shown_texts x n reference (shown ∷ plays) = fun_ext by_role
  where
    by_role : (r : Role) → newest_texts Pictures (Some (letter_of x)) n reference (shown ∷ plays) (exchanged r)
        ≡ newest_texts Pictures2 (Some (letter_of x)) n reference (shown ∷ plays) r
    by_role Video = refl
    by_role Events = refl
    by_role Pictures = refl
    by_role Wire = refl
    by_role Report = refl
    by_role Video2 = refl
    by_role Pictures2 = refl

-- ---- step by step

-- a step that ends
abbrev step_of : End → Step DuplexState
step_of last = Ends last

ends_so : (status : Status) (a b : Role → Option ℕ) → a ≡ b
    → step_of (record { status = status; taken = a; texts = no_texts })
    ≡ step_of (record { status = status; taken = b; texts = no_texts })
ends_so status a b same = ap (λ (taken : Role → Option ℕ). step_of (record {
  status = status;
  taken = taken;
  texts = no_texts;
})) same

line_refused : (trace : List ℕ) (fault : TraceFault) → second_step (step_of (refused_line trace fault))
    ≡ step_of (refused_line trace fault)
line_refused trace fault =
    ends_so (TraceRefused fault) (λ r. Some (of Events (line_size trace) (exchanged r)))
    (λ r. Some (of Events (line_size trace) r))
    (ap (λ (taken : Role → ℕ). λ r. Some (taken r)) (line_taken (line_size trace)))

-- what is taken where a video is refused
abbrev refused_taken : List ℕ → Role → Role → Option ℕ
refused_taken trace video r = if is_role video r then None else Some (of Events (line_size trace) r)

video_refused : (trace : List ℕ) → (λ r. refused_taken trace Video (exchanged r)) ≡ refused_taken trace Video2
video_refused trace = fun_ext by_role
  where
    by_role : (r : Role) → refused_taken trace Video (exchanged r) ≡ refused_taken trace Video2 r
    by_role Video = refl
    by_role Events = refl
    by_role Pictures = refl
    by_role Wire = refl
    by_role Report = refl
    by_role Video2 = refl
    by_role Pictures2 = refl

line_goes : (trace : List ℕ) (next : DuplexState) (first second : Role → List ℕ) → for_second first ≡ second
    → second_step (Goes next (line_turn trace first)) ≡ Goes next (line_turn trace second)
line_goes trace next first second texts =
    λ i. Goes next (record { taken = line_taken (line_size trace) i; whole = is_closed trace; texts = texts i })

module _ (x : Party) (s : DuplexState) (trace : List ℕ) where
  event_unless : (e : Event) (o : Option Refusal) (first second : Step DuplexState) → second_step first ≡ second
      → second_step (unless_refused (s.lines + 1) trace e o first) ≡ unless_refused (s.lines + 1) trace e o second
  event_unless e None first second same = same
  event_unless e (Some r) first second same = line_refused trace _

  frame_captured : (size : ℕ) (r : Result (List ℕ) Y4mFault)
      → second_step (party_captured_step Video Pictures VideoRefused x s trace size r)
      ≡ party_captured_step Video2 Pictures2 Video2Refused x s trace size r
  frame_captured size (Ok planes) =
      ap (λ (taken : Role → ℕ). Goes (after_party_line (with_party_frame x s size planes) trace) (record {
        taken = taken;
        whole = is_closed trace;
        texts = no_texts;
      }))
      (frame_taken (line_size trace) size)
  frame_captured size (Err fault) =
      ends_so (Video2Refused fault) (λ r. refused_taken trace Video (exchanged r)) (refused_taken trace Video2)
      (video_refused trace)

  frame_asked : (video : List ℕ) → second_step (party_capture_step Video Pictures VideoRefused x s trace video)
      ≡ party_capture_step Video2 Pictures2 Video2Refused x s trace video
  frame_asked [] = line_refused trace _
  frame_asked (b ∷ rest) = frame_captured (frame_size (s.params x).format (b ∷ rest))
      (next_frame (video_place_of x s).more (s.params x).format (video_place_of x s).at (b ∷ rest))

  quiet : (ways : WayRuns Frame) → second_step (quiet_party_step s trace ways) ≡ quiet_party_step s trace ways
  quiet ways = line_goes trace (after_party_line (record s { ways = ways }) trace) no_texts no_texts refl

  -- what a line says of a party whose roles are the second ones is what it says where both have changed
  -- places
  pub event_at_second : (inputs : Role → List ℕ) (event : Line)
      → second_step (party_event_step Video Pictures VideoRefused x s trace (for_second inputs) event)
      ≡ party_event_step Video2 Pictures2 Video2Refused x s trace inputs event
  event_at_second inputs says.Nothing = quiet s.ways
  event_at_second inputs says.Send = event_unless Send (party_refusal x s Send) _ _ (frame_asked (inputs Video2))
  event_at_second inputs (says.Packet n j) = event_unless (Deliver n j) (party_refusal x s (Deliver n j)) _ _ (quiet _)
  event_at_second inputs (says.All n) = event_unless (Deliver n 0) (party_refusal x s (Deliver n 0)) _ _ (quiet _)
  event_at_second inputs (says.Back k) = line_refused trace _
  event_at_second inputs says.Play =
      event_unless Play (party_refusal x s Play) _ _
      (line_goes trace (after_party_line (with_next x s) trace) (party_play_texts Pictures x (seen_of x (with_next x s))
      (seen_of x s).played) (party_play_texts Pictures2 x (seen_of x (with_next x s)) (seen_of x s).played)
      (shown_texts x (seen_of x s).played _ (seen_of x (with_next x s)).plays))
