-- The receiver over packets that a joiner gives, entry by entry of the log.
use Rattle.std.specs.Prelude.{◌≡◌, ℕ, ◌*◌, ◌^◌, ◌≤◌, Bool, true, List, [], ◌∷◌, ◌++◌, length, fold, map, reverse, Option, Result, IfErr, OnErr, OnOk}
use Rattle.h263_outside.specs.Desk.{Outside, OnlyWrites, Rose}
use Rattle.h263_outside.specs.declared.desk.Role.{Role}
use Rattle.h263_outside.specs.declared.desk.Role.TheVariants.{Pictures, Wire, Report}
use Rattle.h263_types.specs.declared.format.Format.{Format}
use Rattle.h263_types.specs.declared.params.Params.{Params}
use Rattle.y4m.specs.Text.{head_text}
use Rattle.call_report.specs.declared.status.Status.{Status}
use Rattle.call_report.specs.declared.status.Status.TheVariants.{WriteFault}
use Rattle.event_logs.specs.declared.entry.Side.TheVariants.{Recv as OfReceiver}
use Rattle.desk_program.specs.Ends.{Gains, GainsFronts}
use Rattle.desk_program.specs.Run.{Step}
use Rattle.desk_program.specs.Texts.{no_texts, on, then_also}
use Rattle.log_command.specs.Log.{LogRules, LogState, log_begin, log_step}
use Rattle.call_model.specs.Receiving.{ReceiverEntry, Packet, PlayNext}
use Rattle.payload_join.specs.Joining.{JoinerStands}
use Rattle.payload_join.specs.Run.{given_next, took_next}
use Rattle.recv_command.specs.declared.join.Joining.{Joining}
use Rattle.recv_command.specs.declared.join_tally.JoinTally.{JoinTally}
use Rattle.recv_command.specs.declared.recv.Receiving.{Receiving}
use Rattle.recv_command.specs.JoinTally.{join_text, nothing_taken, packets_taken, with_joined, with_took}
use Rattle.recv_command.specs.Recv.{RecvStands, RecvState, nothing_heard, recv_rules}
use Rattle.recv_command.specs.Tally.{total_counted}

-- ---- a receiver that gets several packets

-- what it keeps in mind, and what it has said
pub record Delivering : Type 0 where
  pub state : RecvState
  pub texts : Role → List ℕ

abbrev pub delivers_one : Delivering → List ℕ → Delivering
delivers_one h bytes =
    record {
      state = recv_rules.packet h.state bytes;
      texts = then_also h.texts (recv_rules.packet_text h.state bytes);
    }

abbrev pub delivers_next : Delivering → List (List ℕ) → Delivering
delivers_next h packets = fold delivers_one h packets

-- one packet after the other, as if each were an entry of the log
abbrev pub delivers : RecvState → List (List ℕ) → Delivering
delivers s packets = delivers_next (record { state = s; texts = no_texts }) packets

-- ---- the command

-- the packets of the log so far, newest first; what became of them; and what the receiver keeps in
-- mind
pub record JoinState : Type 0 where
  pub packets : List (List ℕ)
  pub took : JoinTally
  pub receiver : RecvState

abbrev pub nothing_joined : Params → JoinState
nothing_joined p = record { packets = []; took = nothing_taken; receiver = nothing_heard p }

-- what goes out with the next packet
abbrev pub given_to : JoinState → List ℕ → List (List ℕ)
given_to s bytes = given_next s.receiver.params.format s.packets bytes

-- the joiner takes each packet of the log, and the receiver gets what goes out with it; a play is
-- the receiver's; at the end the joiner's counts are told, and then the receiver's
abbrev pub join_rules : LogRules JoinState
join_rules =
    record {
      side = OfReceiver;
      packet = λ s bytes. record {
        packets = bytes ∷ s.packets;
        took = with_joined (length (given_to s bytes)) (with_took (took_next s.packets bytes) s.took);
        receiver = (delivers s.receiver (given_to s bytes)).state;
      };
      packet_text = λ s bytes. (delivers s.receiver (given_to s bytes)).texts;
      other = λ s bytes. record s { receiver = recv_rules.other s.receiver bytes };
      other_text = λ s bytes. recv_rules.other_text s.receiver bytes;
      plays = λ s. recv_rules.plays s.receiver;
      end_text = λ s. then_also (on Report (join_text s.took)) (recv_rules.end_text s.receiver);
    }

abbrev pub join_begin : Params → (Role → List ℕ) → Step (LogState JoinState)
join_begin p inputs = log_begin (nothing_joined p) (on Pictures (head_text p.format))

abbrev pub join_step : LogState JoinState → (Role → List ℕ) → Step (LogState JoinState)
join_step s inputs = log_step join_rules s inputs

-- ---- the receiver's entries

-- the packets among these entries
unfoldable pub packets_among : List ReceiverEntry → List (List ℕ)
packets_among [] = []
packets_among (PlayNext ∷ past) = packets_among past
packets_among (Packet bytes ∷ past) = bytes ∷ packets_among past

-- what the receiver gets and plays after these entries of the log, the newest first: the join run
-- of the log's packets, with the plays in their places
unfoldable pub through : Format → List ReceiverEntry → List ReceiverEntry
through format [] = []
through format (PlayNext ∷ past) = PlayNext ∷ through format past
through format (Packet bytes ∷ past) =
    reverse (map Packet (given_next format (packets_among past) bytes)) ++ through format past

-- what the command keeps in mind after these entries
abbrev pub joins_entry : JoinState → ReceiverEntry → JoinState
joins_entry s (Packet bytes) = join_rules.packet s bytes
joins_entry s PlayNext = join_rules.other s []

unfoldable pub joined_state : Params → List ReceiverEntry → JoinState
joined_state p [] = nothing_joined p
joined_state p (entry ∷ past) = joins_entry (joined_state p past) entry

-- ---- what the command keeps in mind, and what it is ready for

pub record JoinStands (c : Joining) (s : JoinState) : Type 0 where
  pub format : s.receiver.params.format ≡ c.format
  pub took : s.took ≡ c.took
  pub joiner : JoinerStands c.joiner s.packets
  pub receiver : RecvStands c.receiving s.receiver

pub record JoinReady (c : Joining) (entries : ℕ) (attached : Role → Bool) : Type 0 where
  pub pictures : attached Pictures ≡ true
  pub wire : attached Wire ≡ true
  pub report : attached Report ≡ true
  -- all was given, and the joiner stands for some packets
  pub none_left : c.joiner.left ≡ []
  pub past : List (List ℕ)
  pub stands : JoinerStands c.joiner past
  -- one packet of the log gives 2^22 at most
  pub packets : packets_taken c.took ≤ entries
  pub joined : c.took.joined ≤ 2 ^ 22 * entries
  pub counted : total_counted c.receiving.tally ≤ 2 ^ 22 * entries

-- ---- while the packets that go out are delivered

-- it has only written, and it stopped where a write failed
pub record HasWritten (outcome : Result (Unit {0}) Status) (old now : Outside) : Type 0 where
  pub kind : IfErr outcome (λ status. status ≡ WriteFault)
  pub cause : OnErr outcome (Rose old.faults.write now.faults.write)
  pub rest : OnlyWrites old now

-- this was written, or a prefix of it
pub record Wrote (texts : Role → List ℕ) (outcome : Result (Unit {0}) Status)
    (old now : Role → Option (List ℕ)) : Type 0 where
  pub ok : OnOk outcome (Gains texts old now)
  pub err : OnErr outcome (GainsFronts texts old now)

-- with the packets that are left the receiver has got all, and has said what was to be said so far
pub record IsDelivering (receiving : Receiving) (left : List (List ℕ))
    (outcome : Result (Unit {0}) Status) (all : Delivering) (old now : Role → Option (List ℕ)) : Type 0 where
  pub so_far : Delivering
  pub rest : delivers_next so_far left ≡ all
  pub stands : RecvStands receiving so_far.state
  pub written : Wrote so_far.texts outcome old now
