-- What a receiver over a log comes to, as a whole: what the receiver's run over the log's packets and
-- plays shows, says and counts.
use Rattle.std.specs.Prelude.{◌≡◌, ℕ, ◌+◌, List, [], ◌∷◌, ◌++◌, length, Option, Some, None}
use Rattle.h263_outside.specs.declared.desk.Role.{Role}
use Rattle.h263_outside.specs.declared.desk.Role.TheVariants.{Events, Pictures, Wire, Report}
use Rattle.h263_types.specs.declared.format.Format.{Format}
use Rattle.h263_types.specs.declared.params.Params.{Params}
use Rattle.y4m.specs.Text.{head_text, frame_text}
use Rattle.event_logs.specs.declared.entry.Entry.{Entry}
use Rattle.event_logs.specs.declared.entry.Entry.TheVariants as log_entry
use Rattle.event_logs.specs.declared.entry.Side.TheVariants.{Recv as OfReceiver}
use Rattle.event_logs.specs.Log.{Found, log_entries, log_fault}
use Rattle.event_logs.specs.Text.{entry_text}
use Rattle.call_report.specs.Text.{picture_text}
use Rattle.call_model.specs.Coding.{Message}
use Rattle.call_model.specs.Receiving.{ReceiverEntry, Packet, PlayNext}
use Rattle.call_encoding.specs.Messages.{write_message}
use Rattle.receiver_end.specs.Answers.{mark_from, said_by}
use Rattle.receiver_end.specs.State.{run_of, answer_after, mark_after, message_after}
use Rattle.desk_program.specs.Run.{Run, text_of}
use Rattle.log_command.specs.Followed.{IsEnd}
use Rattle.payload_join.specs.Run.{given_next, took_next}
use Rattle.recv_command.specs.declared.join_tally.JoinTally.{JoinTally}
use Rattle.recv_command.specs.declared.tally.Tally.{Tally}
use Rattle.recv_command.specs.Join.{packets_among, through}
use Rattle.recv_command.specs.JoinTally.{join_text, nothing_taken, with_joined, with_took}
use Rattle.recv_command.specs.Tally.{nothing_heard_counted, with_mark, with_answer, receiver_counts}
use Rattle.desk_program.specs.Texts.{only_at_ok}

-- an entry of a receiver's log as the receiver has it: a packet, or a play
abbrev pub heard_as : Entry → List ℕ → ReceiverEntry
heard_as (log_entry.Packet len) bytes = Packet bytes
heard_as log_entry.Capture bytes = PlayNext
heard_as (log_entry.Back len) bytes = PlayNext
heard_as log_entry.Play bytes = PlayNext

-- the packets and plays after those of these entries, the newest first
abbrev pub with_receiver_entries : List ReceiverEntry → List Found → List ReceiverEntry
with_receiver_entries past [] = past
with_receiver_entries past (found ∷ more) = with_receiver_entries (heard_as found.entry found.bytes ∷ past) more

-- a message on the wire is an entry B (66)
abbrev pub said_entry : Option Message → List ℕ
said_entry None = []
said_entry (Some message) = entry_text 66 (write_message message)

-- ---- of these packets and plays, the newest first

module _ (p : Params) where
  -- what the plays have shown, in order, each picture with its mark
  abbrev pub pictures_text : List ReceiverEntry → List ℕ
  pictures_text [] = []
  pictures_text (Packet bytes ∷ past) = pictures_text past
  pictures_text (PlayNext ∷ past) =
      pictures_text past ++ frame_text (mark_from (mark_after p past)) (run_of p (PlayNext ∷ past)).screen

  -- the messages that the receiver has said, to packets and at plays
  abbrev pub messages_text : List ReceiverEntry → List ℕ
  messages_text [] = []
  messages_text (Packet bytes ∷ past) =
      messages_text past ++ said_entry (said_by (answer_after p past bytes))
  messages_text (PlayNext ∷ past) = messages_text past ++ said_entry (message_after p past)

  -- the lines of the plays
  abbrev pub receiver_play_lines : List ReceiverEntry → List ℕ
  receiver_play_lines [] = []
  receiver_play_lines (Packet bytes ∷ past) = receiver_play_lines past
  receiver_play_lines (PlayNext ∷ past) =
      receiver_play_lines past
      ++ picture_text (run_of p past).played (Some (mark_from (mark_after p past))) None None

  -- what is counted: each play by its mark, and each packet by its answer
  abbrev pub counted_heard : List ReceiverEntry → Tally
  counted_heard [] = nothing_heard_counted
  counted_heard (Packet bytes ∷ past) = with_answer (answer_after p past bytes) (counted_heard past)
  counted_heard (PlayNext ∷ past) = with_mark (mark_from (mark_after p past)) (counted_heard past)

  -- The run is the receiver's over these packets and plays: its pictures are the head and then what
  -- the plays showed, its wire has what was said, and its report the lines of the plays, with the
  -- counts where it ends with `Ok`.
  pub record IsReceiverOver (past : List ReceiverEntry) (run : Run) : Type 0 where
    pub pictures : text_of run Pictures ≡ head_text p.format ++ pictures_text past
    pub wire : text_of run Wire ≡ messages_text past
    pub report : text_of run Report
        ≡ receiver_play_lines past
        ++ only_at_ok run.last.status (receiver_counts (run_of p past).played (counted_heard past))

  -- The entries that it accepts are the first ones of the log, one in each turn but the first, which
  -- writes the head. Over them the run is the receiver's, and it ends because of what comes after
  -- them.
  pub record ReceivesItsLog (inputs : Role → List ℕ) (run : Run) : Type 0 where
    pub accepted : List Found
    pub refused : List Found
    pub read : log_entries OfReceiver (inputs Events) ≡ accepted ++ refused
    pub taken : length run.turns ≡ length accepted + 1
    pub is_run : IsReceiverOver (with_receiver_entries [] accepted) run
    pub end : IsEnd (log_fault OfReceiver (inputs Events)) (run_of p (with_receiver_entries [] accepted)).played
        refused run.last.status

-- ---- with a joiner

-- what became of these packets, the newest first, and how many packets went out with them
abbrev pub joins_counted : Format → List (List ℕ) → JoinTally
joins_counted format [] = nothing_taken
joins_counted format (bytes ∷ packets) =
    with_joined (length (given_next format packets bytes))
    (with_took (took_next packets bytes) (joins_counted format packets))

-- The same, where the receiver gets what the joiner gives of the log's packets, with the plays in their
-- places; at the end the joiner's counts are told, and then the receiver's.
pub record JoinsItsLog (p : Params) (inputs : Role → List ℕ) (run : Run) : Type 0 where
  pub accepted : List Found
  pub refused : List Found
  pub read : log_entries OfReceiver (inputs Events) ≡ accepted ++ refused
  pub taken : length run.turns ≡ length accepted + 1
  pub pictures : text_of run Pictures
      ≡ head_text p.format ++ pictures_text p (through p.format (with_receiver_entries [] accepted))
  pub wire : text_of run Wire ≡ messages_text p (through p.format (with_receiver_entries [] accepted))
  pub report : text_of run Report
      ≡ receiver_play_lines p (through p.format (with_receiver_entries [] accepted))
      ++ only_at_ok run.last.status
      (join_text (joins_counted p.format (packets_among (with_receiver_entries [] accepted)))
      ++ receiver_counts (run_of p (through p.format (with_receiver_entries [] accepted))).played
      (counted_heard p (through p.format (with_receiver_entries [] accepted))))
  pub end : IsEnd (log_fault OfReceiver (inputs Events))
      (run_of p (through p.format (with_receiver_entries [] accepted))).played refused run.last.status
