-- With a joiner a run over a receiver's log is the receiver's run over what the joiner gives.
use Rattle.std.proofs.Common.{◌≡◌, ℕ, List, [], ◌∷◌, ◌++◌, map, refl, sym, ap, ◌∙◌, append_assoc}
use Rattle.std.proofs.lemmas.List.{append-nil}
use Rattle.std.specs.Prelude.{reverse}
use Rattle.h263_outside.specs.declared.desk.Role.{Role}
use Rattle.h263_outside.specs.declared.desk.Role.TheVariants.{Pictures, Wire, Report}
use Rattle.h263_types.specs.declared.params.Params.{Params}
use Rattle.y4m.specs.Text.{head_text}
use Rattle.event_logs.specs.declared.entry.Entry.{Entry}
use Rattle.event_logs.specs.declared.entry.Entry.TheVariants as log_entry
use Rattle.call_model.specs.Receiving.{ReceiverEntry, Packet}
use Rattle.desk_program.specs.Run.{Run, text_of}
use Rattle.desk_program.specs.Texts.{no_texts, on, only_at_ok, then_also}
use Rattle.log_command.specs.Followed.{FollowsItsLog, mind_with, text_after, text_with}
use Rattle.payload_join.specs.Run.{given_next}
use Rattle.recv_command.specs.Followed.{JoinsItsLog, heard_as, joins_counted, messages_text, pictures_text, receiver_play_lines, with_receiver_entries}
use Rattle.recv_command.specs.Join.{Delivering, JoinState, delivers_next, join_rules, packets_among, through}
use Rattle.recv_command.specs.Recv.{recv_rules}
use Rattle.recv_command.proofs.Followed.{end_at, lines_grow, messages_grow, pictures_grow, quiet_end, state, texts_are, texts_at, turns_are}
use Rattle.recv_command.proofs.Joined.{reversed}

module _ (p : Params) where
  -- a receiver after these entries that has said this
  abbrev having : List ReceiverEntry → (Role → List ℕ) → Delivering
  having past texts = record { state = state p past; texts = texts }

  -- ---- one packet of the log, by what goes out with it

  delivered : (packets : List (List ℕ)) (past : List ReceiverEntry) (texts : Role → List ℕ)
      → (delivers_next (having past texts) packets).state ≡ state p (reverse (map Packet packets) ++ past)
  delivered [] past texts = refl
  delivered (bytes ∷ packets) past texts =
      delivered packets (Packet bytes ∷ past) (then_also texts (recv_rules.packet_text (state p past) bytes))
      ∙ ap (state p) (reversed (Packet bytes) (map Packet packets) past)

  -- a text of the receiver grows with each of them
  module _ (r : Role) (text : List ReceiverEntry → List ℕ)
      (grows : (past : List ReceiverEntry) (e : Entry) (bytes : List ℕ)
      → text past ++ text_with recv_rules (state p past) e bytes r ≡ text (heard_as e bytes ∷ past)) where
    said : (packets : List (List ℕ)) (past : List ReceiverEntry) (texts : Role → List ℕ) (before : List ℕ)
        → text past ≡ before ++ texts r
        → text (reverse (map Packet packets) ++ past) ≡ before ++ (delivers_next (having past texts) packets).texts r
    said [] past texts before is = is
    said (bytes ∷ packets) past texts before is =
        let now = recv_rules.packet_text (state p past) bytes in
        ap text (sym (reversed (Packet bytes) (map Packet packets) past))
        ∙ said packets (Packet bytes ∷ past) (then_also texts now) before
        (sym (grows past (log_entry.Packet 0) bytes) ∙ ap (λ (l : List ℕ). l ++ now r) is
        ∙ append_assoc before (texts r) (now r))

  -- ---- what the command keeps in mind

  abbrev joined : List ReceiverEntry → JoinState
  joined past =
      record {
        packets = packets_among past;
        took = joins_counted p.format (packets_among past);
        receiver = state p (through p.format past);
      }

  abbrev given : List ReceiverEntry → List ℕ → List (List ℕ)
  given past bytes = given_next p.format (packets_among past) bytes

  mind_is : (past : List ReceiverEntry) (e : Entry) (bytes : List ℕ) → mind_with join_rules (joined past) e bytes
      ≡ joined (heard_as e bytes ∷ past)
  unfolding packets_among through
  mind_is past (log_entry.Packet len) bytes =
      ap (λ s. let j : JoinState = record {
        packets = bytes ∷ packets_among past;
        took = joins_counted p.format (bytes ∷ packets_among past);
        receiver = s;
      } in j)
      (delivered (given past bytes) (through p.format past) no_texts)
  mind_is past log_entry.Capture bytes = refl
  mind_is past (log_entry.Back len) bytes = refl
  mind_is past log_entry.Play bytes = refl

  -- a text of the receiver over what it gets
  module _ (r : Role) (text : List ReceiverEntry → List ℕ)
      (grows : (past : List ReceiverEntry) (e : Entry) (bytes : List ℕ)
      → text past ++ text_with recv_rules (state p past) e bytes r ≡ text (heard_as e bytes ∷ past)) where
    abbrev over : List ReceiverEntry → List ℕ
    over past = text (through p.format past)

    grows_joined : (past : List ReceiverEntry) (e : Entry) (bytes : List ℕ)
        → over past ++ text_with join_rules (joined past) e bytes r ≡ over (heard_as e bytes ∷ past)
    unfolding packets_among through
    grows_joined past (log_entry.Packet len) bytes =
        sym (said r text grows (given past bytes) (through p.format past) no_texts (over past)
        (sym (append-nil (over past))))
    grows_joined past log_entry.Capture bytes = grows (through p.format past) log_entry.Play bytes
    grows_joined past (log_entry.Back len) bytes = grows (through p.format past) log_entry.Play bytes
    grows_joined past log_entry.Play bytes = grows (through p.format past) log_entry.Play bytes

  -- ---- the run

  module _ (inputs : Role → List ℕ) (run : Run) (f : FollowsItsLog join_rules (joined [])
      (on Pictures (head_text p.format)) inputs run) where
    abbrev head : Role → List ℕ
    head = on Pictures (head_text p.format)

    abbrev past : List ReceiverEntry
    past = with_receiver_entries [] f.accepted

    text_at : (r : Role) (text : List ReceiverEntry → List ℕ) → text_after join_rules (joined []) f.accepted r
        ≡ text past
        → text_of run r ≡ head r ++ (text past ++ only_at_ok run.last.status (join_rules.end_text (joined past) r))
    text_at r text is = texts_at join_rules joined mind_is [] head inputs run f r text is

    pub joins : JoinsItsLog p inputs run
    unfolding through
    joins = record {
      accepted = f.accepted;
      refused = f.refused;
      read = f.read;
      taken = turns_are join_rules joined mind_is [] head inputs run f;
      pictures =
          text_at Pictures (over Pictures (pictures_text p) (pictures_grow p))
          (texts_are join_rules joined mind_is Pictures (over Pictures (pictures_text p) (pictures_grow p))
          (grows_joined Pictures (pictures_text p) (pictures_grow p)) f.accepted [])
          ∙ ap (λ (l : List ℕ). head_text p.format
          ++ l) (quiet_end join_rules joined mind_is [] head inputs run f Pictures
          (over Pictures (pictures_text p) (pictures_grow p)) refl);
      wire =
          text_at Wire (over Wire (messages_text p) (messages_grow p)) (texts_are join_rules joined mind_is Wire
          (over Wire (messages_text p) (messages_grow p)) (grows_joined Wire (messages_text p) (messages_grow p))
          f.accepted [])
          ∙ quiet_end join_rules joined mind_is [] head inputs run f Wire
          (over Wire (messages_text p) (messages_grow p)) refl;
      report = text_at Report (over Report (receiver_play_lines p) (lines_grow p)) (texts_are join_rules joined mind_is
          Report
          (over Report (receiver_play_lines p) (lines_grow p)) (grows_joined Report (receiver_play_lines p)
          (lines_grow p)) f.accepted
          []);
      end = end_at join_rules joined mind_is [] head inputs run f;
    }
