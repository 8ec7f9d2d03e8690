-- A call of two parties over a trace, line by line: what it reads, writes and answers.
use Rattle.std.specs.Prelude.{ℕ, ◌+◌, ◌-◌, Bool, false, not, nat_lt, codes, List, [], ◌∷◌, length, Option, Some, None, Result, Ok, Err, if◌then◌else◌}
use Rattle.h263_types.specs.declared.params.Params.{Params}
use Rattle.h263_planes.specs.Layout.{picture_of}
use Rattle.h263_outside.specs.declared.desk.Role.{Role}
use Rattle.h263_outside.specs.declared.desk.Role.TheVariants.{Video, Events, Pictures, Report, Video2, Pictures2}
use Rattle.y4m.specs.declared.fault.Y4mFault.{Y4mFault}
use Rattle.y4m.specs.Frame.{next_frame, frame_size}
use Rattle.loss_trace.specs.declared.event.Event.{Event as Line}
use Rattle.loss_trace.specs.declared.event.Event.TheVariants as says
use Rattle.loss_trace.specs.declared.fault.TraceFault.TheVariants.{BadLine, TooMany, NoFrame}
use Rattle.loss_trace.specs.Lines.{first_line, is_closed}
use Rattle.call_report.specs.declared.status.Status.{Status}
use Rattle.call_report.specs.declared.status.Status.TheVariants.{Ok as Fine, VideoRefused, Video2Refused}
use Rattle.h263_types.specs.Texts.{Text}
use Rattle.call_model.specs.IdealCall.{Event, Send, Deliver, Play, Back}
use Rattle.call_model.specs.Refusals.{Refusal}
use Rattle.call_encoding.specs.Frames.{Frame}
use Rattle.desk_program.specs.Run.{End, Step, video_refusal}
use Rattle.desk_program.specs.Run.Step.{Goes, Ends}
use Rattle.desk_program.specs.Texts.{no_texts, on, then_also, of, and_of}
use Rattle.one_way.specs.Seen.{Seen, in_call, reference_in}
use Rattle.duplex_call.specs.declared.line.Party.{Party}
use Rattle.duplex_call.specs.declared.line.Party.TheVariants.{A, B}
use Rattle.duplex_call.specs.Duplex.{WayRuns, no_runs, with_capture, with_delivery, with_play}
use Rattle.duplex_call.specs.Lines.{party_event}
use Rattle.duplex_call.specs.Refused.{refusal_of}
use Rattle.call_command.specs.Counts.{call_text_of}
use Rattle.call_command.specs.Rows.{newest_texts}
use Rattle.duplex_ends.specs.Ways.{call_in, sides, with_whole}
use Rattle.call_command.specs.Call.{bad_line, line_size, line_turn, refused_line, unless_refused}

-- where a party's video stands: the byte of its next frame, and how many frames may still come
pub record VideoPlace : Type 0 where
  pub at : ℕ
  pub more : ℕ

pub record DuplexState : Type 0 where
  -- each party's parameters, with the format of its video
  pub params : Party → Params
  -- what both ways have met, and where both videos stand
  pub ways : WayRuns Frame
  pub video_a : VideoPlace
  pub video_b : VideoPlace
  -- how many lines of the trace were read, and whether the last of them had no newline
  pub lines : ℕ
  pub ended : Bool

-- ---- what belongs to a party

abbrev pub video_of : Party → Role
video_of A = Video
video_of B = Video2

abbrev pub pictures_role : Party → Role
pictures_role A = Pictures
pictures_role B = Pictures2

-- its letter
abbrev pub letter_of : Party → ℕ
letter_of A = 97
letter_of B = 98

-- how its video is refused
abbrev pub refused_party_video : Party → Y4mFault → Status
refused_party_video A fault = VideoRefused fault
refused_party_video B fault = Video2Refused fault

abbrev pub video_place_of : Party → DuplexState → VideoPlace
video_place_of A s = s.video_a
video_place_of B s = s.video_b

abbrev pub with_video_place : Party → VideoPlace → DuplexState → DuplexState
with_video_place A place s = record s { video_a = place }
with_video_place B place s = record s { video_b = place }

-- what is seen of its pictures, by the ideal call
abbrev pub seen_of : Party → DuplexState → Seen
seen_of x s = in_call (call_in s.params x s.ways)

-- ---- texts

-- what is written where picture n of the party was played
abbrev pub party_play_texts : Role → Party → Seen → ℕ → Role → List ℕ
party_play_texts pictures x seen n =
    newest_texts pictures (Some (letter_of x)) n (reference_in seen.coded n) seen.plays

-- the line of a party's counts
abbrev pub played_word : Party → Text
played_word A = codes "a played"
played_word B = codes "b played"

abbrev pub party_counts : Party → (Party → Params) → WayRuns Frame → Text
party_counts x p ways = call_text_of (played_word x) (in_call (call_in p x ways))

-- those of both parties
abbrev pub both_counts : (Party → Params) → WayRuns Frame → Role → List ℕ
both_counts p ways = then_also (on Report (party_counts A p ways)) (on Report (party_counts B p ways))

-- the trace is at its end
abbrev pub both_played : DuplexState → End
both_played s = record { status = Fine; taken = λ _. Some 0; texts = both_counts s.params s.ways }

-- ---- a line

-- after the line
abbrev pub after_party_line : DuplexState → List ℕ → DuplexState
after_party_line s trace = record s { lines = s.lines + 1; ended = not (is_closed trace) }

-- a line that reads and writes nothing else: both ways are then these
abbrev pub quiet_party_step : DuplexState → List ℕ → WayRuns Frame → Step DuplexState
quiet_party_step s trace ways =
    Goes (after_party_line (record s { ways = ways }) trace) (line_turn trace no_texts)

module _ (x : Party) (s : DuplexState) where
  -- the first refusal of an event, as far as it is told before a frame is read
  abbrev pub party_refusal : Event → Option Refusal
  party_refusal e = refusal_of (sides s.params) (length (seen_of x s).coded + 1) x e s.ways

  -- the frame of these planes is sent, which has taken so many bytes of the party's video
  abbrev pub with_party_frame : ℕ → List ℕ → DuplexState
  with_party_frame size planes =
      with_video_place x (record { at = (video_place_of x s).at + size; more = (video_place_of x s).more - 1 })
      (record s {
        ways = with_capture (sides s.params) x (picture_of (s.params x).format planes) s.ways;
      })

  -- the next picture is played
  abbrev pub with_next : DuplexState
  with_next = record s { ways = with_play (sides s.params) x s.ways }

-- What a line says is done, for the party whose pictures it is about: its video stands in one role,
-- and what is shown of its pictures goes to another.
module _ (video pictures : Role) (refuses : Y4mFault → Status) (x : Party) (s : DuplexState)
    (trace : List ℕ) where
  -- the frame is sent that the line asks for, or refused
  abbrev pub party_captured_step : ℕ → Result (List ℕ) Y4mFault → Step DuplexState
  party_captured_step size (Ok planes) =
      Goes (after_party_line (with_party_frame x s size planes) trace)
      (record {
        taken = and_of (of Events (line_size trace)) (of video size);
        whole = is_closed trace;
        texts = no_texts;
      })
  party_captured_step size (Err fault) =
      Ends (video_refusal video (of Events (line_size trace)) (refuses fault))

  -- the video is read once it is known that the event isn't far
  abbrev pub party_capture_step : List ℕ → Step DuplexState
  party_capture_step [] = Ends (refused_line trace (NoFrame (s.lines + 1)))
  party_capture_step (b ∷ rest) =
      party_captured_step (frame_size (s.params x).format (b ∷ rest))
      (next_frame (video_place_of x s).more (s.params x).format (video_place_of x s).at (b ∷ rest))

  abbrev pub play_step : Step DuplexState
  play_step =
      Goes (after_party_line (with_next x s) trace)
      (line_turn trace (party_play_texts pictures x (seen_of x (with_next x s)) (seen_of x s).played))

  -- a party's line says neither nothing nor that a message comes back
  abbrev pub party_event_step : (Role → List ℕ) → Line → Step DuplexState
  party_event_step inputs says.Nothing = quiet_party_step s trace s.ways
  party_event_step inputs says.Send =
      unless_refused (s.lines + 1) trace Send (party_refusal x s Send) (party_capture_step (inputs video))
  party_event_step inputs (says.Packet n j) =
      unless_refused (s.lines + 1) trace (Deliver n j) (party_refusal x s (Deliver n j))
      (quiet_party_step s trace (with_delivery (sides s.params) x n j s.ways))
  party_event_step inputs (says.All n) =
      unless_refused (s.lines + 1) trace (Deliver n 0) (party_refusal x s (Deliver n 0))
      (quiet_party_step s trace (with_whole s.params x n s.ways))
  party_event_step inputs (says.Back k) =
      unless_refused (s.lines + 1) trace (Back k) (party_refusal x s (Back k)) (quiet_party_step s trace s.ways)
  party_event_step inputs says.Play = unless_refused (s.lines + 1) trace Play (party_refusal x s Play) play_step

-- what a party's line says is done
abbrev pub party_step : Party → DuplexState → (Role → List ℕ) → Line → Step DuplexState
party_step x s inputs event =
    party_event_step (video_of x) (pictures_role x) (refused_party_video x) x s (inputs Events) inputs event

-- a line is bad, or empty, or says an event of a party
abbrev pub lettered_step : DuplexState → (Role → List ℕ) → Option (Option (Party × Line))
    → Step DuplexState
lettered_step s inputs None = Ends (bad_line (BadLine (s.lines + 1)))
lettered_step s inputs (Some None) = quiet_party_step s (inputs Events) s.ways
lettered_step s inputs (Some (Some said)) = party_step said.0 s inputs said.1

-- a trace has 16,777,216 lines at most
abbrev pub duplex_trace_step : DuplexState → (Role → List ℕ) → List ℕ → Step DuplexState
duplex_trace_step s inputs [] = Ends (both_played s)
duplex_trace_step s inputs (b ∷ trace) =
    if nat_lt s.lines 16777216
    then lettered_step s inputs (party_event (first_line (b ∷ trace)))
    else Ends (bad_line (TooMany (s.lines + 1)))

-- ---- a turn

abbrev pub duplex_step : DuplexState → (Role → List ℕ) → Step DuplexState
duplex_step s inputs = duplex_trace_step s inputs (inputs Events)

-- it may still read: the last line had its newline
abbrev pub talk_may_read : DuplexState → Bool
talk_may_read s = not s.ended

-- before the first line, where the videos' first frames are at these bytes
abbrev pub duplex_at_start : (Party → Params) → ℕ → ℕ → DuplexState
duplex_at_start params at_a at_b =
    record {
      params = params;
      ways = no_runs;
      video_a = record { at = at_a; more = 1048576 };
      video_b = record { at = at_b; more = 1048576 };
      lines = 0;
      ended = false;
    }
