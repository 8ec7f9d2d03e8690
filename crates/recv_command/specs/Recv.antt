-- The receiver alone, entry by entry of its log.
use Rattle.std.specs.Prelude.{◌≡◌, ℕ, Bool, true, List, [], ◌∷◌}
use Rattle.h263_outside.specs.declared.desk.Role.{Role}
use Rattle.h263_outside.specs.declared.desk.Role.TheVariants.{Pictures, Wire, Report}
use Rattle.h263_types.specs.declared.params.Params.{Params}
use Rattle.h263_types.specs.Params.{IsParams}
use Rattle.y4m.specs.Text.{head_text}
use Rattle.event_logs.specs.declared.entry.Side.TheVariants.{Recv as OfReceiver}
use Rattle.desk_program.specs.Run.{Step}
use Rattle.desk_program.specs.Texts.{on}
use Rattle.log_command.specs.Log.{LogRules, LogState, log_begin, log_step}
use Rattle.call_model.specs.Receiving.{ReceiverEntry, Packet, PlayNext}
use Rattle.receiver_end.specs.Answers.{mark_from, said_by}
use Rattle.receiver_end.specs.State.{run_of, answer_after, mark_after, message_after, Stands}
use Rattle.recv_command.specs.declared.recv.Receiving.{Receiving}
use Rattle.recv_command.specs.declared.tally.Tally.{Tally}
use Rattle.recv_command.specs.Said.{said_message_text, shown_play_text}
use Rattle.recv_command.specs.Tally.{nothing_heard_counted, total_counted, with_mark, with_answer, receiver_counts}

-- the parameters, the packets and plays so far, newest first, and what was counted of them
pub record RecvState : Type 0 where
  pub params : Params
  pub past : List ReceiverEntry
  pub tally : Tally

abbrev pub nothing_heard : Params → RecvState
nothing_heard p = record { params = p; past = []; tally = nothing_heard_counted }

-- the state after an entry
abbrev pub after_heard_entry : RecvState → ReceiverEntry → Tally → RecvState
after_heard_entry s entry tally = record { params = s.params; past = entry ∷ s.past; tally = tally }

-- a packet is heard: what it completes is acknowledged
abbrev pub heard_text : Params → List ReceiverEntry → List ℕ → Role → List ℕ
heard_text p past bytes = said_message_text (said_by (answer_after p past bytes))

-- the next picture is shown: with its mark, its line, and where it isn't complete the message that
-- says so
abbrev pub played_text : Params → List ReceiverEntry → Role → List ℕ
played_text p past =
    shown_play_text (run_of p past).played (mark_from (mark_after p past)) (run_of p (PlayNext ∷ past)).screen
    (message_after p past)

-- each entry joins those so far, and is counted; at the end the counts are told
abbrev pub recv_rules : LogRules RecvState
recv_rules =
    record {
      side = OfReceiver;
      packet = λ s bytes. after_heard_entry s (Packet bytes) (with_answer (answer_after s.params s.past bytes) s.tally);
      packet_text = λ s bytes. heard_text s.params s.past bytes;
      other = λ s bytes. after_heard_entry s PlayNext (with_mark (mark_from (mark_after s.params s.past)) s.tally);
      other_text = λ s bytes. played_text s.params s.past;
      plays = λ s. (run_of s.params s.past).played;
      end_text = λ s. on Report (receiver_counts (run_of s.params s.past).played s.tally);
    }

-- before the first entry the head of the pictures is written, and nothing is read
abbrev pub recv_begin : Params → (Role → List ℕ) → Step (LogState RecvState)
recv_begin p inputs = log_begin (nothing_heard p) (on Pictures (head_text p.format))

abbrev pub recv_step : LogState RecvState → (Role → List ℕ) → Step (LogState RecvState)
recv_step s inputs = log_step recv_rules s inputs

-- ---- what the command keeps in mind, and what it is ready for

pub record RecvStands (c : Receiving) (s : RecvState) : Type 0 where
  pub params : s.params ≡ c.receiver.params
  pub tally : s.tally ≡ c.tally
  pub run : Stands c.receiver s.past

pub record RecvOpens (p : Params) (attached : Role → Bool) : Type 0 where
  pub params : IsParams p
  pub pictures : attached Pictures ≡ true
  pub wire : attached Wire ≡ true
  pub report : attached Report ≡ true

pub record RecvReady (c : Receiving) (entries : ℕ) (attached : Role → Bool) : Type 0 where
  pub pictures : attached Pictures ≡ true
  pub wire : attached Wire ≡ true
  pub report : attached Report ≡ true
  pub counted : total_counted c.tally ≡ entries
