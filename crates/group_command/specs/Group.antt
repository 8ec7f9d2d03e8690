-- A group's call over a trace, line by line: what it reads, writes and answers.
use Rattle.std.specs.Prelude.{ℕ, zero, suc, ◌+◌, ◌-◌, Bool, true, false, not, nat_lt, codes, List, [], ◌∷◌, length, replicate, slice_get, slice_index_or, slice_set, Option, Some, None, Result, Ok, Err, if◌then◌else◌}
use Rattle.std.specs.Option.{option_map_or}
use Rattle.h263_types.specs.declared.format.Format.{Format}
use Rattle.h263_types.specs.declared.params.Params.{Params}
use Rattle.h263_planes.specs.Layout.{picture_of}
use Rattle.h263_outside.specs.declared.desk.Role.{Role}
use Rattle.h263_outside.specs.declared.desk.Role.TheVariants.{Video, Events, Pictures, Report, Pictures2, Wire}
use Rattle.y4m.specs.declared.fault.Y4mFault.{Y4mFault}
use Rattle.y4m.specs.Frame.{next_frame, frame_size}
use Rattle.y4m.specs.Head.{head_of, head_size}
use Rattle.y4m.specs.Text.{head_text}
use Rattle.loss_trace.specs.declared.fault.TraceFault.TheVariants.{BadLine, TooMany, NoFrame}
use Rattle.loss_trace.specs.Lines.{first_line, is_closed}
use Rattle.call_report.specs.declared.status.Status.TheVariants.{Ok as Fine, VideoRefused}
use Rattle.h263_types.specs.Texts.{Text}
use Rattle.call_model.specs.IdealCall.{Event, Send, Deliver, Play, Back}
use Rattle.call_model.specs.JoinedRun.{SaidMessage}
use Rattle.call_model.specs.Refusals.{Refusal}
use Rattle.call_command.specs.Call.{bad_line, line_size, line_turn, most_lines, refused_line, unless_refused}
use Rattle.call_command.specs.Counts.{counts_text_of}
use Rattle.call_command.specs.Rows.{newest_texts}
use Rattle.desk_program.specs.Run.{End, Run, Step, run_from, video_refusal}
use Rattle.desk_program.specs.Run.Step.{Goes, Ends}
use Rattle.desk_program.specs.Texts.{no_bytes, no_texts, on, then_also, of, and_of}
use Rattle.receiver_end.specs.State as receiver_end
use Rattle.one_way.specs.Both.{bare, steady}
use Rattle.one_way.specs.Counts.{plays_marked, one_exact, one_held, one_patched}
use Rattle.one_way.specs.Seen.{reference_in}
use Rattle.group_sender.specs.Holding.{Groups, group_after_code, group_after_saying}
use Rattle.group_sender.specs.Running.{after_join, no_group}
use Rattle.group_call.specs.Refused.{view_refusal}
use Rattle.group_call.specs.Viewing.{ViewerRun, no_view, coded_packets, view_delivery, view_picture, view_play}
use Rattle.group_command.specs.declared.terms.GroupTerms.{GroupTerms}
use Rattle.group_command.specs.declared.line.GroupLine.{GroupLine}
use Rattle.group_command.specs.declared.line.GroupLine.TheVariants.{Quiet, ForAll, Of}
use Rattle.group_command.specs.declared.line.OwnEvent.{OwnEvent}
use Rattle.group_command.specs.declared.line.OwnEvent.TheVariants as own
use Rattle.group_command.specs.Lines.{group_line}

pub record GroupState : Type 0 where
  pub params : Params
  -- what the group has done, and each of its receivers, by their places
  pub run : Groups
  pub views : List ViewerRun
  -- the byte of the video's next frame, and how many frames may still come
  pub at : ℕ
  pub more : ℕ
  -- how many lines of the trace were read, and whether the last of them had no newline
  pub lines : ℕ
  pub ended : Bool

-- where the pictures go of the receiver at a place
abbrev pub pictures_at : ℕ → Role
pictures_at zero = Pictures
pictures_at (suc zero) = Pictures2
pictures_at (suc (suc k)) = Wire

abbrev pub view_in : List ViewerRun → ℕ → ViewerRun
view_in views k = slice_index_or views k no_view

-- ---- texts

-- the line of the counts of the receiver at place k
abbrev pub counts_of_view : Params → Groups → ℕ → ViewerRun → Text
counts_of_view p run k view =
    counts_text_of ((49 + k) ∷ codes " played") (receiver_end.run_of p view.entries).played (length run.coded)
    (plays_marked one_exact view.plays) (plays_marked one_patched view.plays) (plays_marked one_held view.plays)

-- those of all receivers, of which these are left from place k on
abbrev pub counts_from : Params → Groups → ℕ → List ViewerRun → Role → List ℕ
counts_from p run k [] = no_texts
counts_from p run k (view ∷ views) =
    then_also (on Report (counts_of_view p run k view)) (counts_from p run (suc k) views)

-- the trace is at its end
abbrev pub all_viewers_played : GroupState → End
all_viewers_played s = record { status = Fine; taken = λ _. Some 0; texts = counts_from s.params s.run 0 s.views }

-- ---- an event of the receiver at place k

-- as one of its call: where all packets of a picture reach it, the first is asked for
abbrev pub event_of : OwnEvent → Event
event_of (own.Packet n j) = Deliver n j
event_of (own.All n) = Deliver n 0
event_of (own.Back m) = Back m
event_of own.Play = Play

module _ (p : Params) (k : ℕ) (run : Groups) (view : ViewerRun) where
  -- the group hears a message, if it was said
  abbrev pub group_heard : Option SaidMessage → Groups
  group_heard told = option_map_or (λ (told : SaidMessage). group_after_saying p k told.bytes run) told run

  -- what the group has done then, and the receiver, and what is written
  abbrev pub run_after : OwnEvent → Groups
  run_after (own.Packet n j) = run
  run_after (own.All n) = run
  run_after (own.Back m) = group_heard (slice_get view.told m)
  run_after own.Play = run

  abbrev pub view_after : OwnEvent → ViewerRun
  view_after (own.Packet n j) = view_delivery p (coded_packets p run.coded n) n j view
  view_after (own.All n) = view_picture p (coded_packets p run.coded n) n view
  view_after (own.Back m) = view
  view_after own.Play = view_play p view

  abbrev pub played_texts : Role → List ℕ
  played_texts =
      let played = (receiver_end.run_of p view.entries).played in
      newest_texts (pictures_at k) (Some (49 + k)) played (reference_in run.coded played) (view_play p view).plays

  abbrev pub texts_after : OwnEvent → Role → List ℕ
  texts_after (own.Packet n j) = no_texts
  texts_after (own.All n) = no_texts
  texts_after (own.Back m) = no_texts
  texts_after own.Play = played_texts

-- ---- a line

-- after the line
abbrev pub after_group_line : GroupState → List ℕ → GroupState
after_group_line s trace = record s { lines = s.lines + 1; ended = not (is_closed trace) }

-- the first of two refusals
abbrev pub or_refused : Option Refusal → Option Refusal → Option Refusal
or_refused None second = second
or_refused (Some refusal) second = Some refusal

-- the first refusal of a capture: that of the first receiver to which half a period is on the way
abbrev pub first_behind : Params → Groups → List ViewerRun → Option Refusal
first_behind p run [] = None
first_behind p run (view ∷ views) = or_refused (view_refusal p run view Send) (first_behind p run views)

-- a line that reads nothing else and writes these texts, after which it is so
abbrev pub quiet_group_step : List ℕ → (Role → List ℕ) → GroupState → Step GroupState
quiet_group_step trace texts s = Goes (after_group_line s trace) (line_turn trace texts)

-- the frame of these planes is sent, which has taken so many bytes of the video
abbrev pub with_group_frame : GroupState → ℕ → List ℕ → GroupState
with_group_frame s size planes =
    record s {
      run = group_after_code s.params (steady s.params) (bare (picture_of s.params.format planes)) s.run;
      at = s.at + size;
      more = s.more - 1;
    }

-- what the line of the receiver at place k says is done
abbrev pub with_own_event : GroupState → ℕ → OwnEvent → GroupState
with_own_event s k e =
    record s {
      run = run_after s.params k s.run (view_in s.views k) e;
      views = slice_set s.views k (view_after s.params k s.run (view_in s.views k) e);
    }

module _ (s : GroupState) (trace : List ℕ) where
  -- the frame is sent that the line asks for, or refused
  abbrev pub group_captured_step : ℕ → Result (List ℕ) Y4mFault → Step GroupState
  group_captured_step size (Ok planes) =
      Goes (after_group_line (with_group_frame s size planes) trace)
      (record {
        taken = and_of (of Events (line_size trace)) (of Video size);
        whole = is_closed trace;
        texts = no_texts;
      })
  group_captured_step size (Err fault) =
      Ends (video_refusal Video (of Events (line_size trace)) (VideoRefused fault))

  -- the video is read once it is known that the event isn't far
  abbrev pub group_capture_step : List ℕ → Step GroupState
  group_capture_step [] = Ends (refused_line trace (NoFrame (s.lines + 1)))
  group_capture_step (b ∷ video) =
      group_captured_step (frame_size s.params.format (b ∷ video)) (next_frame s.more s.params.format s.at (b ∷ video))

  -- the receiver's event is refused, or done
  abbrev pub own_step : ℕ → OwnEvent → Step GroupState
  own_step k e =
      unless_refused (s.lines + 1) trace (event_of e) (view_refusal s.params s.run (view_in s.views k) (event_of e))
      (quiet_group_step trace (texts_after s.params k s.run (view_in s.views k) e) (with_own_event s k e))

-- a line is bad, or empty, or a capture, or an event of a receiver
abbrev pub group_line_step : GroupState → (Role → List ℕ) → Option GroupLine → Step GroupState
group_line_step s inputs None = Ends (bad_line (BadLine (s.lines + 1)))
group_line_step s inputs (Some Quiet) = quiet_group_step (inputs Events) no_texts s
group_line_step s inputs (Some ForAll) =
    unless_refused (s.lines + 1) (inputs Events) Send (first_behind s.params s.run s.views) (group_capture_step s
    (inputs Events) (inputs Video))
group_line_step s inputs (Some (Of k event)) = own_step s (inputs Events) k event

-- a trace has 16,777,216 lines at most
abbrev pub group_trace_step : GroupState → (Role → List ℕ) → List ℕ → Step GroupState
group_trace_step s inputs [] = Ends (all_viewers_played s)
group_trace_step s inputs (b ∷ trace) =
    if nat_lt s.lines 16777216
    then group_line_step s inputs (group_line (length s.views) (first_line (b ∷ trace)))
    else Ends (bad_line (TooMany (s.lines + 1)))

abbrev pub group_step : GroupState → (Role → List ℕ) → Step GroupState
group_step s inputs = group_trace_step s inputs (inputs Events)

-- it may still read: the last line had its newline
abbrev pub room_may_read : GroupState → Bool
room_may_read s = not s.ended

-- ---- the start

-- receivers join at so many places, from 0 on
abbrev pub after_joins : ℕ → Groups
after_joins zero = no_group
after_joins (suc k) = after_join k (after_joins k)

-- before the first line, with the video's first frame at this byte
abbrev pub group_at_start : Params → ℕ → ℕ → GroupState
group_at_start p count at =
    record {
      params = p;
      run = after_joins count;
      views = replicate count no_view;
      at = at;
      more = 1048576;
      lines = 0;
      ended = false;
    }

-- the head of the pictures of each receiver
abbrev pub viewers_heads : Format → ℕ → Role → List ℕ
viewers_heads f zero = no_texts
viewers_heads f (suc k) = then_also (viewers_heads f k) (on (pictures_at k) (head_text f))

-- the head is read, and those of the pictures written
abbrev pub group_head_step : GroupTerms → List ℕ → Result Format Y4mFault → Step GroupState
group_head_step t video (Ok f) =
    Goes (group_at_start (record t.params { format = f }) t.receivers (head_size video))
    (record { taken = of Video (head_size video); whole = true; texts = viewers_heads f t.receivers })
group_head_step t video (Err fault) = Ends (video_refusal Video no_bytes (VideoRefused fault))

abbrev pub group_begin : GroupTerms → (Role → List ℕ) → Step GroupState
group_begin t inputs = group_head_step t (inputs Video) (head_of (inputs Video))

-- all that a group's call makes of its inputs
abbrev pub group_call_run : GroupTerms → (Role → List ℕ) → Run
group_call_run t inputs = run_from (group_begin t inputs) group_step most_lines inputs
