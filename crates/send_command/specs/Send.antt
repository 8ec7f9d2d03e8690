-- What the command of a sender alone makes of a video and of a log.
use Rattle.std.specs.Prelude.{ℕ, ◌+◌, ◌-◌, nat_lt, true, List, [], ◌∷◌, length, take, drop, Option, Some, None, Result, Ok, Err, if◌then◌else◌}
use Rattle.std.specs.List.{flat_map}
use Rattle.h263_outside.specs.Desk.{is_role}
use Rattle.h263_outside.specs.declared.desk.Role.{Role}
use Rattle.h263_outside.specs.declared.desk.Role.TheVariants.{Video, Events, Wire, Report}
use Rattle.h263_types.specs.declared.format.Format.{Format}
use Rattle.h263_types.specs.declared.params.Params.{Params}
use Rattle.h263_planes.specs.Layout.{picture_of}
use Rattle.y4m.specs.declared.fault.Y4mFault.{Y4mFault}
use Rattle.y4m.specs.Head.{head_of, head_size}
use Rattle.y4m.specs.Frame.{next_frame, frame_size}
use Rattle.y4m.specs.Video.{most_frames}
use Rattle.event_logs.specs.declared.entry.Side.TheVariants as sides
use Rattle.event_logs.specs.declared.entry.Entry.{Entry}
use Rattle.event_logs.specs.declared.entry.Entry.TheVariants as log_entry
use Rattle.event_logs.specs.declared.fault.LogFault.{LogFault}
use Rattle.event_logs.specs.declared.fault.LogFault.TheVariants.{BadRecord, NoFrame, TooMany}
use Rattle.event_logs.specs.Entry.{entry_in}
use Rattle.event_logs.specs.Text.{entry_text}
use Rattle.call_report.specs.declared.status.Status.{Status}
use Rattle.call_report.specs.declared.status.Status.TheVariants.{Ok as Fine, VideoRefused, LogRefused}
use Rattle.call_report.specs.Text.{picture_text}
use Rattle.call_model.specs.Sending.{feedback_answer}
use Rattle.call_model.specs.Steering.{nothing_done}
use Rattle.call_decoding.specs.Rules.{rules_of}
use Rattle.call_encoding.specs.Frames.{Frame}
use Rattle.call_encoding.specs.Messages.{read_message}
use Rattle.sender_end.specs.Stands.{packets_after}
use Rattle.desk_program.specs.Run.{End, Step}
use Rattle.desk_program.specs.Run.Step.{Goes, Ends}
use Rattle.desk_program.specs.Texts.{no_bytes, no_texts, on, then_also, of, and_of}
use Rattle.send_command.specs.declared.sending.Sending.{Sending}
use Rattle.send_command.specs.declared.tally.Tally.{Tally}
use Rattle.fitted_sender.specs.Aiming.{Sent, sent_after_heard, after_sent, next_sent}
use Rattle.send_command.specs.Aimed.{aim_at_start}
use Rattle.send_command.specs.Tally.{nothing_sent_counted, with_sent_picture, with_reply, sender_counts}

-- the parameters; what was done so far, and what was counted of it; the byte where the next entry
-- begins, and how many were read; the byte where the next frame begins, and how many may still come
pub record SendState : Type 0 where
  pub params : Params
  pub sent : Sent
  pub tally : Tally
  pub at : ℕ
  pub read : ℕ
  pub video_at : ℕ
  pub more : ℕ

-- A refusal: of what it takes of this input nothing is said, and of each other one this much is
-- taken.
abbrev pub input_refusal : Role → (Role → ℕ) → Status → End
input_refusal input before status =
    record {
      status = status;
      taken = λ r. if is_role input r then None else Some (before r);
      texts = no_texts;
    }

-- a video is refused, after so much of the log
abbrev pub refused_sender_video : ℕ → Y4mFault → End
refused_sender_video size fault = input_refusal Video (of Events size) (VideoRefused fault)

-- a log is refused, where no entry stands that may be there
abbrev pub bad_entry : LogFault → End
bad_entry fault = input_refusal Events no_bytes (LogRefused fault)

-- the most entries of a log
abbrev pub most_entries : ℕ
most_entries = 16777216

-- a frame of the video, captured without messages
abbrev pub captured : Format → List ℕ → Frame
captured f frame = record { picture = picture_of f frame; messages = [] }

-- packets as entries of the log that the other end meets
abbrev pub packets_text : List (List ℕ) → List ℕ
packets_text packets = flat_map (entry_text 75) packets

-- the packets of a picture on the wire, and a line with its number and its reference
abbrev pub picture_texts : List (List ℕ) → ℕ → Option ℕ → Role → List ℕ
picture_texts packets number reference =
    then_also (on Wire (packets_text packets)) (on Report (picture_text number None (Some reference) None))

-- the texts of a frame that is captured after all this
abbrev pub capture_texts : Params → Frame → Sent → Role → List ℕ
capture_texts p frame sent =
    picture_texts (packets_after p (after_sent p frame sent).run) (length sent.run.run.coded)
    (next_sent p frame sent).reference

-- the state after a capture: three bytes of the log and a frame of the video are gone
abbrev pub after_captured_frame : SendState → ℕ → Frame → SendState
after_captured_frame s size frame =
    record {
      params = s.params;
      sent = after_sent s.params frame s.sent;
      tally = with_sent_picture (length (packets_after s.params (after_sent s.params frame s.sent).run)) s.tally;
      at = s.at + 3;
      read = s.read + 1;
      video_at = s.video_at + size;
      more = s.more - 1;
    }

-- the next frame is captured, or refused
abbrev pub sender_frame_step : SendState → ℕ → Result (List ℕ) Y4mFault → Step SendState
sender_frame_step s size (Ok frame) =
    Goes (after_captured_frame s size (captured s.params.format frame))
    (record {
      taken = and_of (of Events 3) (of Video size);
      whole = true;
      texts = capture_texts s.params (captured s.params.format frame) s.sent;
    })
sender_frame_step s size (Err fault) = Ends (refused_sender_video 3 fault)

-- the capture was taken, and the video is at its end
abbrev pub no_frame : ℕ → End
no_frame at = record { status = LogRefused (NoFrame at); taken = λ r. Some (of Events 3 r); texts = no_texts }

-- a capture: it asks for the next frame
abbrev pub entry_capture_step : SendState → List ℕ → Step SendState
entry_capture_step s [] = Ends (no_frame s.at)
entry_capture_step s (b ∷ video) =
    sender_frame_step s (frame_size s.params.format (b ∷ video))
    (next_frame s.more s.params.format s.video_at (b ∷ video))

-- the state after the bytes of a message
abbrev pub after_heard_feedback : SendState → List ℕ → SendState
after_heard_feedback s bytes =
    record {
      params = s.params;
      sent = sent_after_heard s.params bytes s.sent;
      tally = with_reply (feedback_answer (rules_of s.params) (length s.sent.run.run.coded)
          (read_message s.params.clock bytes)) s.tally;
      at = s.at + (3 + length bytes);
      read = s.read + 1;
      video_at = s.video_at;
      more = s.more;
    }

-- feedback: the sender's answer is counted
abbrev pub feedback_step : SendState → ℕ → List ℕ → Step SendState
feedback_step s size bytes =
    Goes (after_heard_feedback s bytes)
    (record { taken = of Events size; whole = true; texts = no_texts })

abbrev pub no_entry : SendState → Step SendState
no_entry s = Ends (bad_entry (BadRecord s.at))

-- the entry that stands first in the log; one of a receiver's log never does
abbrev pub sender_entry_step : SendState → (Role → List ℕ) → Option Entry → Step SendState
sender_entry_step s inputs None = no_entry s
sender_entry_step s inputs (Some log_entry.Capture) = entry_capture_step s (inputs Video)
sender_entry_step s inputs (Some (log_entry.Back len)) =
    feedback_step s (3 + len) (take len (drop 3 (inputs Events)))
sender_entry_step s inputs (Some (log_entry.Packet len)) = no_entry s
sender_entry_step s inputs (Some log_entry.Play) = no_entry s

-- the log is at its end: the counts are told, and nothing more is taken
abbrev pub sender_read_all : Tally → End
sender_read_all t = record { status = Fine; taken = λ _. Some 0; texts = on Report (sender_counts t) }

-- what is left of the log
abbrev pub sender_log_step : SendState → (Role → List ℕ) → List ℕ → Step SendState
sender_log_step s inputs [] = Ends (sender_read_all s.tally)
sender_log_step s inputs (b ∷ log) =
    if nat_lt s.read most_entries then sender_entry_step s inputs (entry_in sides.Send (b ∷ log))
    else Ends (bad_entry (TooMany s.at))

-- a turn: one entry of the log
abbrev pub send_step : SendState → (Role → List ℕ) → Step SendState
send_step s inputs = sender_log_step s inputs (inputs Events)

-- before the first entry, after a head of this many bytes
abbrev pub send_at_start : Sending → Format → ℕ → SendState
send_at_start setup f size =
    record {
      params = record setup.params { format = f };
      sent = record { run = nothing_done; aim = aim_at_start setup f };
      tally = nothing_sent_counted;
      at = 0;
      read = 0;
      video_at = size;
      more = most_frames;
    }

-- the video's head gives the format, or is refused
abbrev pub send_head_step : Sending → ℕ → Result Format Y4mFault → Step SendState
send_head_step setup size (Ok f) =
    Goes (send_at_start setup f size) (record { taken = of Video size; whole = true; texts = no_texts })
send_head_step setup size (Err fault) = Ends (refused_sender_video 0 fault)

-- before the first turn the video's head is read
abbrev pub send_begin : Sending → (Role → List ℕ) → Step SendState
send_begin setup inputs = send_head_step setup (head_size (inputs Video)) (head_of (inputs Video))
