-- A run over a receiver's log is the receiver's run over its packets and plays.
use Rattle.std.proofs.Common.{◌≡◌, ℕ, suc, ◌+◌, List, [], ◌∷◌, ◌++◌, length, Option, Some, None, refl, sym, ap, subst, ◌∙◌, arith}
use Rattle.std.proofs.lemmas.List.{append-nil, append_assoc}
use Rattle.h263_outside.specs.declared.desk.Role.{Role}
use Rattle.h263_outside.specs.declared.desk.Role.TheVariants.{Events, Pictures, Wire, Report}
use Rattle.h263_types.specs.declared.params.Params.{Params}
use Rattle.y4m.specs.Text.{head_text, frame_text}
use Rattle.event_logs.specs.declared.entry.Entry.{Entry}
use Rattle.event_logs.specs.declared.entry.Entry.TheVariants as log_entry
use Rattle.event_logs.specs.Log.{Found, log_fault}
use Rattle.call_report.specs.Text.{picture_text}
use Rattle.call_report.specs.declared.status.Status.{Status}
use Rattle.call_report.specs.declared.status.Status.TheVariants as stops
use Rattle.call_model.specs.Coding.{Message}
use Rattle.call_model.specs.Receiving.{ReceiverEntry, PlayNext}
use Rattle.receiver_end.specs.Answers.{mark_from, said_by}
use Rattle.receiver_end.specs.State.{run_of, answer_after, mark_after, message_after}
use Rattle.desk_program.specs.Run.{Run, text_of}
use Rattle.desk_program.specs.Texts.{on, only_at_ok}
use Rattle.log_command.specs.Log.{LogRules}
use Rattle.log_command.specs.Followed.{FollowsItsLog, IsEnd, mind_after, mind_with, text_after, text_with, turns_over}
use Rattle.recv_command.specs.Followed.{ReceivesItsLog, counted_heard, heard_as, said_entry, messages_text, pictures_text, receiver_play_lines, with_receiver_entries}
use Rattle.recv_command.specs.Recv.{RecvState, nothing_heard, recv_rules}
use Rattle.recv_command.specs.Said.{said_message_text}

-- ---- what a message is on each output

no_picture_said : (o : Option Message) → said_message_text o Pictures ≡ []
no_picture_said None = refl
no_picture_said (Some message) = refl

said_on_wire : (o : Option Message) → said_message_text o Wire ≡ said_entry o
said_on_wire None = refl
said_on_wire (Some message) = refl

no_line_said : (o : Option Message) → said_message_text o Report ≡ []
no_line_said None = refl
no_line_said (Some message) = refl

-- where nothing is told at the end, nothing is told
told_nothing : (status : Status) → only_at_ok status [] ≡ []
told_nothing stops.Ok = refl
told_nothing stops.OutOfMemory = refl
told_nothing stops.Usage = refl
told_nothing stops.ReadFault = refl
told_nothing stops.WriteFault = refl
told_nothing (stops.VideoRefused fault) = refl
told_nothing (stops.TraceRefused fault) = refl
told_nothing (stops.LogRefused fault) = refl
told_nothing (stops.OpenFault role) = refl
told_nothing (stops.Video2Refused fault) = refl

one_turn_each : (n : ℕ) → suc n ≡ n + 1
one_turn_each n = omega arith

-- ---- a run by what is kept in mind of the packets and plays so far

module _ {State : Type 0} (rules : LogRules State) (at : List ReceiverEntry → State)
    (mind_is : (past : List ReceiverEntry) (e : Entry) (bytes : List ℕ) → mind_with rules (at past) e bytes
    ≡ at (heard_as e bytes ∷ past)) where
  pub minds_are : (found : List Found) (past : List ReceiverEntry) → mind_after rules (at past) found
      ≡ at (with_receiver_entries past found)
  minds_are [] past = refl
  minds_are (x ∷ more) past = ap (λ (s : State). mind_after rules s more) (mind_is past x.entry x.bytes)
      ∙ minds_are more (heard_as x.entry x.bytes ∷ past)

  -- a text that grows with each entry by what is written then
  module _ (r : Role) (text : List ReceiverEntry → List ℕ)
      (grows : (past : List ReceiverEntry) (e : Entry) (bytes : List ℕ)
      → text past ++ text_with rules (at past) e bytes r ≡ text (heard_as e bytes ∷ past)) where
    pub texts_are : (found : List Found) (past : List ReceiverEntry) → text past ++ text_after rules (at past) found r
        ≡ text (with_receiver_entries past found)
    texts_are [] past = append-nil (text past)
    texts_are (x ∷ more) past =
        ap (λ (s : State). text past ++ (text_with rules (at past) x.entry x.bytes r ++ text_after rules s more r))
        (mind_is past x.entry x.bytes)
        ∙ sym (append_assoc (text past) (text_with rules (at past) x.entry x.bytes r)
        (text_after rules (at (heard_as x.entry x.bytes ∷ past)) more r))
        ∙ ap (λ (l : List ℕ). l ++ text_after rules (at (heard_as x.entry x.bytes ∷ past)) more r)
        (grows past x.entry x.bytes)
        ∙ texts_are more (heard_as x.entry x.bytes ∷ past)

  turn_count : (found : List Found) (s : State) → length (turns_over rules s found) ≡ length found
  turn_count [] s = refl
  turn_count (x ∷ more) s = ap suc (turn_count more (mind_with rules s x.entry x.bytes))

  module _ (start : List ReceiverEntry) (head inputs : Role
      → List ℕ) (run : Run) (f : FollowsItsLog rules (at start) head inputs run) where
    pub turns_are : length run.turns ≡ length f.accepted + 1
    turns_are = ap length f.turns ∙ ap suc (turn_count f.accepted (at start)) ∙ one_turn_each (length f.accepted)

    abbrev past : List ReceiverEntry
    past = with_receiver_entries start f.accepted

    abbrev end_text : State → Role → List ℕ
    end_text s r = only_at_ok run.last.status (rules.end_text s r)

    pub texts_at : (r : Role) (text : List ReceiverEntry → List ℕ) → text_after rules (at start) f.accepted r
        ≡ text past → text_of run r ≡ head r ++ (text past ++ end_text (at past) r)
    texts_at r text is =
        f.texts r
        ∙ ap (λ (l : List ℕ). head r ++ (l ++ end_text (mind_after rules (at start) f.accepted) r)) is
        ∙ ap (λ (s : State). head r ++ (text past ++ end_text s r)) (minds_are f.accepted start)

    pub end_at : IsEnd (log_fault rules.side (inputs Events)) (rules.plays (at past)) f.refused run.last.status
    end_at = subst (λ (s : State). IsEnd (log_fault rules.side (inputs Events)) (rules.plays s) f.refused
        run.last.status) (minds_are f.accepted start) f.end

    -- only the report has more at the end
    pub quiet_end : (r : Role) (text : List ReceiverEntry → List ℕ) → rules.end_text (at past) r ≡ []
        → text past ++ end_text (at past) r ≡ text past
    quiet_end r text none =
        ap (λ (l : List ℕ). text past ++ only_at_ok run.last.status l) none
        ∙ ap (λ (l : List ℕ). text past ++ l) (told_nothing run.last.status) ∙ append-nil (text past)

module _ (p : Params) where
  -- what the command keeps in mind after these packets and plays
  abbrev pub state : List ReceiverEntry → RecvState
  state past = record { params = p; past = past; tally = counted_heard p past }

  mind_is : (past : List ReceiverEntry) (e : Entry) (bytes : List ℕ) → mind_with recv_rules (state past) e bytes
      ≡ state (heard_as e bytes ∷ past)
  mind_is past (log_entry.Packet len) bytes = refl
  mind_is past log_entry.Capture bytes = refl
  mind_is past (log_entry.Back len) bytes = refl
  mind_is past log_entry.Play bytes = refl

  -- ---- each output, by one entry

  abbrev frame : List ReceiverEntry → List ℕ
  frame past = frame_text (mark_from (mark_after p past)) (run_of p (PlayNext ∷ past)).screen

  abbrev line : List ReceiverEntry → List ℕ
  line past = picture_text (run_of p past).played (Some (mark_from (mark_after p past))) None None

  played_picture : (past : List ReceiverEntry) → pictures_text p past ++ recv_rules.other_text (state past) [] Pictures
      ≡ pictures_text p (PlayNext ∷ past)
  played_picture past =
      ap (λ (l : List ℕ). pictures_text p past ++ (frame past ++ l)) (no_picture_said (message_after p past))
      ∙ ap (λ (l : List ℕ). pictures_text p past ++ l) (append-nil (frame past))

  pub pictures_grow : (past : List ReceiverEntry) (e : Entry) (bytes : List ℕ)
      → pictures_text p past ++ text_with recv_rules (state past) e bytes Pictures
      ≡ pictures_text p (heard_as e bytes ∷ past)
  pictures_grow past (log_entry.Packet len) bytes =
      ap (λ (l : List ℕ). pictures_text p past ++ l) (no_picture_said (said_by (answer_after p past bytes)))
      ∙ append-nil (pictures_text p past)
  pictures_grow past log_entry.Capture bytes = played_picture past
  pictures_grow past (log_entry.Back len) bytes = played_picture past
  pictures_grow past log_entry.Play bytes = played_picture past

  played_message : (past : List ReceiverEntry) → messages_text p past ++ recv_rules.other_text (state past) [] Wire
      ≡ messages_text p (PlayNext ∷ past)
  played_message past = ap (λ (l : List ℕ). messages_text p past ++ l) (said_on_wire (message_after p past))

  pub messages_grow : (past : List ReceiverEntry) (e : Entry) (bytes : List ℕ)
      → messages_text p past ++ text_with recv_rules (state past) e bytes Wire
      ≡ messages_text p (heard_as e bytes ∷ past)
  messages_grow past (log_entry.Packet len) bytes = ap (λ (l : List ℕ). messages_text p past
      ++ l) (said_on_wire (said_by (answer_after p past bytes)))
  messages_grow past log_entry.Capture bytes = played_message past
  messages_grow past (log_entry.Back len) bytes = played_message past
  messages_grow past log_entry.Play bytes = played_message past

  played_line : (past : List ReceiverEntry) → receiver_play_lines p past ++ recv_rules.other_text (state past) [] Report
      ≡ receiver_play_lines p (PlayNext ∷ past)
  played_line past =
      ap (λ (l : List ℕ). receiver_play_lines p past ++ (line past ++ l)) (no_line_said (message_after p past))
      ∙ ap (λ (l : List ℕ). receiver_play_lines p past ++ l) (append-nil (line past))

  pub lines_grow : (past : List ReceiverEntry) (e : Entry) (bytes : List ℕ)
      → receiver_play_lines p past ++ text_with recv_rules (state past) e bytes Report
      ≡ receiver_play_lines p (heard_as e bytes ∷ past)
  lines_grow past (log_entry.Packet len) bytes =
      ap (λ (l : List ℕ). receiver_play_lines p past ++ l) (no_line_said (said_by (answer_after p past bytes)))
      ∙ append-nil (receiver_play_lines p past)
  lines_grow past log_entry.Capture bytes = played_line past
  lines_grow past (log_entry.Back len) bytes = played_line past
  lines_grow past log_entry.Play bytes = played_line past

  -- ---- the run

  module _ (inputs : Role → List ℕ) (run : Run) (f : FollowsItsLog recv_rules (nothing_heard p)
      (on Pictures (head_text p.format)) inputs run) where
    abbrev head : Role → List ℕ
    head = on Pictures (head_text p.format)

    text_at : (r : Role) (text : List ReceiverEntry → List ℕ) → text_after recv_rules (nothing_heard p) f.accepted r
        ≡ text (with_receiver_entries [] f.accepted)
        → text_of run r ≡ head r ++ (text (with_receiver_entries [] f.accepted)
        ++ only_at_ok run.last.status (recv_rules.end_text (state (with_receiver_entries [] f.accepted)) r))
    text_at r text is = texts_at recv_rules state mind_is [] head inputs run f r text is

    pub receives : ReceivesItsLog p inputs run
    receives = record {
      accepted = f.accepted;
      refused = f.refused;
      read = f.read;
      taken = turns_are recv_rules state mind_is [] head inputs run f;
      is_run = record {
        pictures =
            text_at Pictures (pictures_text p) (texts_are recv_rules state mind_is Pictures
            (pictures_text p) pictures_grow f.accepted [])
            ∙ ap (λ (l : List ℕ). head_text p.format
            ++ l) (quiet_end recv_rules state mind_is [] head inputs run f Pictures (pictures_text p) refl);
        wire =
            text_at Wire (messages_text p) (texts_are recv_rules state mind_is Wire (messages_text p) messages_grow
            f.accepted [])
            ∙ quiet_end recv_rules state mind_is [] head inputs run f Wire (messages_text p) refl;
        report = text_at Report (receiver_play_lines p) (texts_are recv_rules state mind_is Report
            (receiver_play_lines p) lines_grow
            f.accepted []);
      };
      end = end_at recv_rules state mind_is [] head inputs run f;
    }
