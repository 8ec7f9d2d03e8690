-- A call over a trace, line by line, or over its plain trace: there each frame of the video is a
-- turn, in which it is sent, its packets are delivered, and a picture is played.
use Rattle.std.specs.Prelude.{ℕ, ◌+◌, ◌-◌, Bool, true, false, not, nat_lt, min, List, [], ◌∷◌, ◌++◌, length, Option, Some, None, Result, Ok, Err, if◌then◌else◌}
use Rattle.h263_types.specs.declared.format.Format.{Format}
use Rattle.h263_types.specs.declared.params.Params.{Params}
use Rattle.h263_planes.specs.Layout.{picture_of}
use Rattle.h263_outside.specs.Desk.{is_role}
use Rattle.h263_outside.specs.declared.desk.Role.{Role}
use Rattle.h263_outside.specs.declared.desk.Role.TheVariants.{Video, Events, Pictures, Report}
use Rattle.y4m.specs.declared.fault.Y4mFault.{Y4mFault}
use Rattle.y4m.specs.Head.{head_of, head_size}
use Rattle.y4m.specs.Frame.{next_frame, frame_size}
use Rattle.y4m.specs.Text.{head_text}
use Rattle.loss_trace.specs.declared.event.Event.{Event as Line}
use Rattle.loss_trace.specs.declared.event.Event.TheVariants as says
use Rattle.loss_trace.specs.declared.fault.TraceFault.{TraceFault}
use Rattle.loss_trace.specs.declared.fault.TraceFault.TheVariants.{BadLine, TooMany, NoFrame}
use Rattle.loss_trace.specs.Lines.{first_line, is_closed}
use Rattle.loss_trace.specs.Reading.{event_in}
use Rattle.call_report.specs.declared.status.Status.TheVariants.{Ok as Fine, VideoRefused, TraceRefused}
use Rattle.call_model.specs.IdealCall.{Event, Send, Deliver, Play, Back, slices_at, ideal}
use Rattle.call_model.specs.Receiving.{ReceiverEntry}
use Rattle.call_model.specs.Refusals.{Refusal, first_refusal}
use Rattle.call_decoding.specs.Rules.{rules_of}
use Rattle.call_encoding.specs.Frames.{Frame}
use Rattle.coded_call.specs.Coding.{coding}
use Rattle.desk_program.specs.Run.{Turn, End, Step, video_refusal}
use Rattle.desk_program.specs.Run.Step.{Goes, Ends}
use Rattle.desk_program.specs.Texts.{no_bytes, no_texts, on, of, and_of}
use Rattle.call_command.specs.declared.terms.Terms.{Terms}
use Rattle.one_way.specs.Trace.{delivered}
use Rattle.one_way.specs.Both.{bare, both_after, steady}
use Rattle.one_way.specs.Seen.{Seen, in_call, in_both, reference_in}
use Rattle.call_command.specs.Refused.{fault_told}
use Rattle.call_command.specs.Counts.{call_text}
use Rattle.call_command.specs.Rows.{newest_texts}

pub record CallState : Type 0 where
  -- the parameters with the video's format, and whether the trace is the plain one
  pub params : Params
  pub plain : Bool
  -- what the receiver had heard before the call, newest first: nothing in a command
  pub before : List ReceiverEntry
  -- the frames that were read, oldest first, and the events, newest first
  pub frames : List Frame
  pub past : List Event
  -- the byte of the next frame, and how many frames may still come
  pub at : ℕ
  pub more : ℕ
  -- how many lines of the trace were read, and whether the last of them had no newline
  pub lines : ℕ
  pub ended : Bool

-- what is seen of a call
abbrev pub View : Type 0
View = CallState → Seen

-- by the ideal call
abbrev pub by_call : View
by_call s = in_call (ideal (coding s.params) (rules_of s.params) (steady s.params) s.frames s.past)

-- by both ends
abbrev pub by_ends : View
by_ends s = in_both (both_after s.params (steady s.params) s.frames s.before s.past)

-- ---- events

-- the next frame is sent
abbrev pub with_frame : CallState → Frame → CallState
with_frame s frame = record s { frames = s.frames ++ frame ∷ []; past = Send ∷ s.past }

-- the packet at place j of picture n is delivered; where there is none, nothing is
abbrev pub with_packet_delivered : CallState → ℕ → ℕ → CallState
with_packet_delivered s n j = record s { past = Deliver n j ∷ s.past }

-- message k comes back
abbrev pub with_message : CallState → ℕ → CallState
with_message s k = record s { past = Back k ∷ s.past }

-- the next picture is played
abbrev pub with_next_play : CallState → CallState
with_next_play s = record s { past = Play ∷ s.past }

-- ---- texts

-- what is written where picture n was played
abbrev pub play_texts : Seen → ℕ → Role → List ℕ
play_texts seen n = newest_texts Pictures None n (reference_in seen.coded n) seen.plays

-- ---- the end

-- the video is at its end, or the trace
abbrev pub all_played : Seen → End
all_played seen = record { status = Fine; taken = λ _. Some 0; texts = on Report (call_text seen) }

-- ---- a line of the trace

-- the bytes of the first line, with its newline where it has one
abbrev pub line_size : List ℕ → ℕ
line_size trace = min (length (first_line trace) + 1) (length trace)

-- after the line
abbrev pub after_line : CallState → List ℕ → CallState
after_line s trace = record s { lines = s.lines + 1; ended = not (is_closed trace) }

-- the turn of a line that asks for no frame
abbrev pub line_turn : List ℕ → (Role → List ℕ) → Turn
line_turn trace texts = record { taken = of Events (line_size trace); whole = is_closed trace; texts = texts }

-- a line that says an event, and is refused: it is taken, and nothing of the video
abbrev pub refused_line : List ℕ → TraceFault → End
refused_line trace fault =
    record { status = TraceRefused fault; taken = λ r. Some (of Events (line_size trace) r); texts = no_texts }

-- a line that says none, or is one too many: of what it takes of the trace nothing is said, and
-- nothing is taken of the other inputs
abbrev pub bad_line : TraceFault → End
bad_line fault =
    record { status = TraceRefused fault; taken = λ r. if is_role Events r then None else Some 0; texts = no_texts }

-- the line of this number says this event, which is refused or has its step
abbrev pub unless_refused : {State : Type 0} → ℕ → List ℕ → Event → Option Refusal → Step State → Step State
unless_refused number trace e None step = step
unless_refused number trace e (Some refusal) step = Ends (refused_line trace (fault_told number e refusal))

-- the frame is sent that the line asks for, or refused
abbrev pub captured_step : CallState → List ℕ → ℕ → Result (List ℕ) Y4mFault → Step CallState
captured_step s trace size (Ok planes) =
    let sent = with_frame s (bare (picture_of s.params.format planes)) in
    Goes (record (after_line sent trace) { at = s.at + size; more = s.more - 1 })
    (record { taken = and_of (of Events (line_size trace)) (of Video size); whole = is_closed trace; texts = no_texts })
captured_step s trace size (Err fault) =
    Ends (video_refusal Video (of Events (line_size trace)) (VideoRefused fault))

-- the video is read once it is known that the event isn't far
abbrev pub capture_step : CallState → List ℕ → List ℕ → Step CallState
capture_step s trace [] = Ends (refused_line trace (NoFrame (s.lines + 1)))
capture_step s trace (b ∷ video) =
    captured_step s trace (frame_size s.params.format (b ∷ video)) (next_frame s.more s.params.format s.at (b ∷ video))

module _ (view : View) where
  -- the packets of picture n are delivered in their order
  abbrev pub with_packets : CallState → ℕ → CallState
  with_packets s n = record s { past = delivered n (length (slices_at (view s).coded n)) ++ s.past }

  -- the first refusal of an event, as far as it is told before a frame is read
  abbrev pub refusal_at : CallState → Event → Option Refusal
  refusal_at s e =
      first_refusal (rules_of s.params)
      (length (view s).coded + 1) (length (view s).coded) (view s).played (view s).abouts e

  -- what the line says is done
  abbrev pub event_step : CallState → (Role → List ℕ) → List ℕ → Line → Step CallState
  event_step s inputs trace says.Nothing = Goes (after_line s trace) (line_turn trace no_texts)
  event_step s inputs trace says.Send = unless_refused (s.lines + 1) trace Send (refusal_at s Send)
      (capture_step s trace (inputs Video))
  event_step s inputs trace (says.Packet n j) =
      unless_refused (s.lines + 1) trace (Deliver n j) (refusal_at s (Deliver n j))
      (Goes (after_line (with_packet_delivered s n j) trace) (line_turn trace no_texts))
  event_step s inputs trace (says.All n) =
      unless_refused (s.lines + 1) trace (Deliver n 0) (refusal_at s (Deliver n 0))
      (Goes (after_line (with_packets s n) trace) (line_turn trace no_texts))
  event_step s inputs trace (says.Back k) =
      unless_refused (s.lines + 1) trace (Back k) (refusal_at s (Back k))
      (Goes (after_line (with_message s k) trace) (line_turn trace no_texts))
  event_step s inputs trace says.Play =
      unless_refused (s.lines + 1) trace Play (refusal_at s Play)
      (Goes (after_line (with_next_play s) trace)
      (line_turn trace (play_texts (view (with_next_play s)) (view s).played)))

  abbrev pub line_step : CallState → (Role → List ℕ) → List ℕ → Option Line → Step CallState
  line_step s inputs trace None = Ends (bad_line (BadLine (s.lines + 1)))
  line_step s inputs trace (Some line) = event_step s inputs trace line

  -- a trace has 16,777,216 lines at most
  abbrev pub trace_step : CallState → (Role → List ℕ) → List ℕ → Step CallState
  trace_step s inputs [] = Ends (all_played (view s))
  trace_step s inputs (b ∷ trace) =
      if nat_lt s.lines 16777216
      then line_step s inputs (b ∷ trace) (event_in (first_line (b ∷ trace)))
      else Ends (bad_line (TooMany (s.lines + 1)))

  -- ---- the plain trace

  -- a frame is sent, its packets are delivered, and a picture is played
  abbrev pub with_whole_frame : CallState → List ℕ → CallState
  with_whole_frame s planes =
      with_next_play (with_packets (with_frame s (bare (picture_of s.params.format planes))) (length s.frames))

  -- a frame is passed on, or refused
  abbrev pub frame_step : CallState → List ℕ → Result (List ℕ) Y4mFault → Step CallState
  frame_step s video (Ok planes) =
      let size = frame_size s.params.format video in
      Goes (record (with_whole_frame s planes) { at = s.at + size; more = s.more - 1 })
      (record {
        taken = of Video size;
        whole = true;
        texts = play_texts (view (with_whole_frame s planes)) (length s.frames);
      })
  frame_step s video (Err fault) = Ends (video_refusal Video no_bytes (VideoRefused fault))

  abbrev pub video_step : CallState → List ℕ → Step CallState
  video_step s [] = Ends (all_played (view s))
  video_step s (b ∷ rest) = frame_step s (b ∷ rest) (next_frame s.more s.params.format s.at (b ∷ rest))

  -- ---- a turn

  abbrev pub step_by : CallState → (Role → List ℕ) → Step CallState
  step_by s inputs = if s.plain then video_step s (inputs Video) else trace_step s inputs (inputs Events)

-- a turn of the command, by the ideal call
abbrev pub call_step : CallState → (Role → List ℕ) → Step CallState
call_step s inputs = step_by by_call s inputs

-- a turn of a call whose receiver may have heard anything before, by both ends
abbrev pub talk_step : CallState → (Role → List ℕ) → Step CallState
talk_step s inputs = step_by by_ends s inputs

-- before the first event, with the video's first frame at this byte
abbrev pub call_at_start : Terms → List ReceiverEntry → ℕ → CallState
call_at_start t before at =
    record {
      params = t.params;
      plain = t.plain;
      before = before;
      frames = [];
      past = [];
      at = at;
      more = 1048576;
      lines = 0;
      ended = false;
    }

-- the terms with the video's format
abbrev pub with_format : Terms → Format → Terms
with_format t f = record t { params = record t.params { format = f } }

-- the head is read, and that of the pictures written
abbrev pub head_step : Terms → List ℕ → Result Format Y4mFault → Step CallState
head_step t video (Ok f) =
    Goes (call_at_start (with_format t f) [] (head_size video))
    (record { taken = of Video (head_size video); whole = true; texts = on Pictures (head_text f) })
head_step t video (Err fault) = Ends (video_refusal Video no_bytes (VideoRefused fault))

abbrev pub call_begin : Terms → (Role → List ℕ) → Step CallState
call_begin t inputs = head_step t (inputs Video) (head_of (inputs Video))

-- how many lines a trace has at most
abbrev pub most_lines : ℕ
most_lines = 16777216

-- how many turns there may be at most
abbrev pub most_turns : Bool → ℕ
most_turns plain = if plain then 1048576 else most_lines

-- it may still read: the last line had its newline
abbrev pub may_read : CallState → Bool
may_read s = not s.ended
