-- What a sender over a log and a video comes to, as a whole: what the sender's run over the log's
-- feedback and the video's frames sends and counts.
use Rattle.std.specs.Prelude.{◌≡◌, ℕ, ◌+◌, ⊤, List, [], ◌∷◌, ◌++◌, length, map, drop, Option, Some, None}
use Rattle.h263_outside.specs.declared.desk.Role.{Role}
use Rattle.h263_outside.specs.declared.desk.Role.TheVariants.{Video, Events, Wire, Report}
use Rattle.h263_types.specs.declared.params.Params.{Params}
use Rattle.y4m.specs.declared.fault.Y4mFault.{Y4mFault}
use Rattle.y4m.specs.Video.{video_fault, video_frames}
use Rattle.event_logs.specs.declared.entry.Side.TheVariants as sides
use Rattle.event_logs.specs.declared.entry.Entry.{Entry}
use Rattle.event_logs.specs.declared.entry.Entry.TheVariants as log_entry
use Rattle.event_logs.specs.declared.fault.LogFault.{LogFault}
use Rattle.event_logs.specs.declared.fault.LogFault.TheVariants.{NoFrame}
use Rattle.event_logs.specs.Log.{Found, log_entries, log_fault}
use Rattle.call_report.specs.declared.status.Status.{Status}
use Rattle.call_report.specs.declared.status.Status.TheVariants.{Ok as Fine, LogRefused, VideoRefused}
use Rattle.call_report.specs.Text.{picture_text}
use Rattle.call_model.specs.Sending.{SenderEntry, Capture, Feedback, feedback_answer}
use Rattle.call_decoding.specs.Rules.{rules_of}
use Rattle.call_encoding.specs.Frames.{Frame}
use Rattle.call_encoding.specs.Messages.{read_message}
use Rattle.sender_end.specs.Stands.{packets_after}
use Rattle.desk_program.specs.Run.{Run, text_of}
use Rattle.fitted_sender.specs.declared.aim.Aim.{Aim}
use Rattle.fitted_sender.specs.Aiming.{next_sent, sent_by}
use Rattle.send_command.specs.declared.tally.Tally.{Tally}
use Rattle.send_command.specs.Send.{captured, packets_text}
use Rattle.send_command.specs.Tally.{nothing_sent_counted, with_sent_picture, with_reply, sender_counts}
use Rattle.desk_program.specs.Texts.{log_read_out, only_at_ok}

-- the frames of a video, as they are captured
abbrev pub sender_film : Params → List (List ℕ) → List Frame
sender_film p planes = map (captured p.format) planes

-- ---- the entries of the log, with the frames of the video

-- a capture takes the next of these frames
abbrev pub capture_of : List Frame → List (SenderEntry Frame) → List (SenderEntry Frame)
capture_of [] past = past
capture_of (frame ∷ frames) past = Capture frame ∷ past

-- the captures and the feedback after an entry, the newest first, and the frames that are left then
abbrev pub past_with : List Frame → List (SenderEntry Frame) → Entry → List ℕ → List (SenderEntry Frame)
past_with frames past log_entry.Capture bytes = capture_of frames past
past_with frames past (log_entry.Back len) bytes = Feedback bytes ∷ past
past_with frames past (log_entry.Packet len) bytes = past
past_with frames past log_entry.Play bytes = past

abbrev pub frames_with : List Frame → Entry → List Frame
frames_with frames log_entry.Capture = drop 1 frames
frames_with frames (log_entry.Back len) = frames
frames_with frames (log_entry.Packet len) = frames
frames_with frames log_entry.Play = frames

-- the same after these entries
abbrev pub with_sender_entries : List Frame → List (SenderEntry Frame) → List Found → List (SenderEntry Frame)
with_sender_entries frames past [] = past
with_sender_entries frames past (found ∷ more) =
    with_sender_entries (frames_with frames found.entry) (past_with frames past found.entry found.bytes) more

abbrev pub frames_after : List Frame → List Found → List Frame
frames_after frames [] = frames
frames_after frames (found ∷ more) = frames_after (frames_with frames found.entry) more

-- ---- of these captures and this feedback, the newest first

module _ (p : Params) (aim : Aim) where
  -- the packets of the pictures, in order, as entries of the log that the other end meets
  abbrev pub sent_text : List (SenderEntry Frame) → List ℕ
  sent_text [] = []
  sent_text (Capture frame ∷ past) =
      sent_text past ++ packets_text (packets_after p (sent_by p aim (Capture frame ∷ past)).run)
  sent_text (Feedback bytes ∷ past) = sent_text past

  -- the lines of the pictures, each with its number and its reference
  abbrev pub sent_lines : List (SenderEntry Frame) → List ℕ
  sent_lines [] = []
  sent_lines (Capture frame ∷ past) =
      sent_lines past
      ++ picture_text (length (sent_by p aim past).run.run.coded) None
      (Some (next_sent p frame (sent_by p aim past)).reference) None
  sent_lines (Feedback bytes ∷ past) = sent_lines past

  -- what is counted: the pictures with their packets, and feedback by its answer
  abbrev pub counted_sent : List (SenderEntry Frame) → Tally
  counted_sent [] = nothing_sent_counted
  counted_sent (Capture frame ∷ past) =
      with_sent_picture (length (packets_after p (sent_by p aim (Capture frame ∷ past)).run)) (counted_sent past)
  counted_sent (Feedback bytes ∷ past) =
      with_reply (feedback_answer (rules_of p) (length (sent_by p aim past).run.run.coded)
      (read_message p.clock bytes)) (counted_sent past)

-- how a capture ends it for which no frame is left
abbrev pub no_frame_left : Option Y4mFault → ℕ → Status
no_frame_left None at = LogRefused (NoFrame at)
no_frame_left (Some fault) at = VideoRefused fault

-- The log is read out, up to its first fault; or the next entry is a capture, and no frame is left for
-- it: the video is at its end, or its next frame is refused.
abbrev pub IsSenderEnd : Option LogFault → Option Y4mFault → List Frame → List Found → Status → Type 0
IsSenderEnd fault broken frames [] status = status ≡ log_read_out fault
IsSenderEnd fault broken frames (found ∷ more) status =
    (found.entry ≡ log_entry.Capture) × (frames ≡ []) × (status ≡ no_frame_left broken found.at)

-- What an end takes of each input, where it is said: at the log's end nothing; a capture for which no
-- frame is left the three bytes of its entry, and nothing more of the log; and where no entry stands,
-- nothing of the video.
abbrev pub Spares : Status → (Role → Option ℕ) → Type 0
Spares Fine taken = (taken Events ≡ Some 0) × (taken Video ≡ Some 0)
Spares (VideoRefused fault) taken = taken Events ≡ Some 3
Spares (LogRefused (NoFrame at)) taken = (taken Events ≡ Some 3) × (taken Video ≡ Some 0)
Spares (LogRefused fault) taken = taken Video ≡ Some 0
Spares _ taken = ⊤

-- The entries that it accepts are the first ones of the log, one in each turn but the first, which
-- reads the video's head. The first capture takes the first frame of the video, and so on. Over these
-- captures and this feedback the wire has the packets of the sender's run, and the report the lines of
-- its pictures, with the counts where it ends with `Ok`. It ends because of what comes after them.
pub record SendsItsLog (p : Params) (aim : Aim) (inputs : Role → List ℕ) (run : Run) : Type 0 where
  pub accepted : List Found
  pub refused : List Found
  pub read : log_entries sides.Send (inputs Events) ≡ accepted ++ refused
  pub taken : length run.turns ≡ length accepted + 1
  pub wire : text_of run Wire
      ≡ sent_text p aim (with_sender_entries (sender_film p (video_frames (inputs Video))) [] accepted)
  pub report : text_of run Report
      ≡ sent_lines p aim (with_sender_entries (sender_film p (video_frames (inputs Video))) [] accepted)
      ++ only_at_ok run.last.status
      (sender_counts (counted_sent p aim (with_sender_entries (sender_film p (video_frames (inputs Video))) []
      accepted)))
  pub end : IsSenderEnd (log_fault sides.Send (inputs Events)) (video_fault (inputs Video))
      (frames_after (sender_film p (video_frames (inputs Video))) accepted) refused run.last.status
  pub others : Spares run.last.status run.last.taken
