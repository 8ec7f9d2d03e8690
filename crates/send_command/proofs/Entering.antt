-- A turn by what the reader of the log says.
use Rattle.std.proofs.Common.{◌≡◌, ◌≢◌, ◌⊎◌, inl, inr, ℕ, ◌+◌, ◌<◌, ◌≤◌, Bool, true, false, List, [], ◌∷◌, length, take, Option, None, Some, Result, Ok, Err, refl, sym, ap, ◌∙◌, subst, arith}
use Rattle.std.specs.Prelude.{nat_lt, if◌then◌else◌}
use Rattle.std.proofs.lemmas.Bool.{lt-ltb, le-ltb}
use Rattle.h263_outside.specs.Desk.{Outside}
use Rattle.h263_outside.specs.declared.desk.Role.{Role}
use Rattle.h263_outside.specs.declared.desk.Role.TheVariants.{Video, Events, Report}
use Rattle.y4m.specs.declared.fault.Y4mFault.{Y4mFault}
use Rattle.y4m.specs.Frame.{next_frame}
use Rattle.event_logs.specs.declared.entry.Side.{Side}
use Rattle.event_logs.specs.declared.entry.Side.TheVariants as sides
use Rattle.event_logs.specs.declared.entry.Entry.{Entry}
use Rattle.event_logs.specs.declared.entry.Entry.TheVariants as log_entry
use Rattle.event_logs.specs.declared.fault.LogFault.{LogFault}
use Rattle.event_logs.specs.declared.fault.LogFault.TheVariants.{BadRecord, TooMany}
use Rattle.event_logs.specs.declared.fault.LogStop.{LogStop}
use Rattle.event_logs.specs.declared.fault.LogStop.TheVariants as stops
use Rattle.event_logs.specs.Entry.{entry_in, entry_size}
use Rattle.event_logs.specs.Place.{LogPlace}
use Rattle.event_logs.specs.Reader.{EntryGives, MovesLog}
use Rattle.call_report.specs.declared.status.Status.TheVariants.{Ok as Fine, LogRefused}
use Rattle.call_report.specs.Status.{phase, log_stop}
use Rattle.desk_program.specs.Run.{End, Step, left_after}
use Rattle.desk_program.specs.Run.Step.{Ends}
use Rattle.desk_program.specs.Ends.{Tells, Gains, GainsFronts, IsPart, Ended, GivesUp, step_turns, step_texts}
use Rattle.desk_program.specs.Texts.{no_bytes, no_texts, on, of, and_of}
use Rattle.desk_program.specs.Laws.{TurnLaws}
use Rattle.send_command.specs.Tally.{sender_counts}
use Rattle.send_command.specs.Send.{SendState, captured, bad_entry, capture_texts, most_entries, sender_frame_step, entry_capture_step, sender_entry_step, sender_read_all, sender_log_step, send_step}
use Rattle.send_command.proofs.Apart.{log_refused}
use Rattle.send_command.proofs.Held.{no_entry_held, not_none}

-- ---- a part of an entry holds no turn

part_of_frame : (s : SendState) (size : ℕ) (r : Result (List ℕ) Y4mFault) (k : Role → ℕ) → (3 ≤ k Events → ⊥)
    → IsPart (step_turns (sender_frame_step s size r)) k
part_of_frame s size (Ok frame) k few =
    no_entry_held (record {
      taken = and_of (of Events 3) (of Video size);
      whole = true;
      texts = capture_texts s.params (captured s.params.format frame) s.sent;
    }) k few
part_of_frame s size (Err fault) k few = tt

part_of_capture : (s : SendState) (video : List ℕ) (k : Role → ℕ) → (3 ≤ k Events → ⊥)
    → IsPart (step_turns (entry_capture_step s video)) k
part_of_capture s [] k few = tt
part_of_capture s (b ∷ video) k few = part_of_frame s _ (next_frame s.more s.params.format s.video_at (b ∷ video)) k few

part_of_entry : (s : SendState) (inputs : Role → List ℕ) (e : Option Entry) (k : ℕ)
    → ((entry : Entry) → e ≡ Some entry → 3 + entry_size entry ≤ k → ⊥)
    → IsPart (step_turns (sender_entry_step s inputs e)) (of Events k)
part_of_entry s inputs None k few = tt
part_of_entry s inputs (Some log_entry.Capture) k few = part_of_capture s (inputs Video) (of Events k)
    (few log_entry.Capture refl)
part_of_entry s inputs (Some (log_entry.Back len)) k few = no_entry_held (record {
  taken = of Events (3 + len);
  whole = true;
  texts = no_texts;
}) (of Events k) (few (log_entry.Back len) refl)
part_of_entry s inputs (Some (log_entry.Packet len)) k few = tt
part_of_entry s inputs (Some log_entry.Play) k few = tt

abbrev pub CutAfter : Type 0
CutAfter = (side : Side) (entry : Entry) (text : List ℕ) (k : ℕ) → entry_in side text ≡ Some entry
    → 3 + entry_size entry ≤ k → entry_in side (take k text) ≡ Some entry

-- the step, where another entry may come or not
abbrev chosen : Bool → SendState → (Role → List ℕ) → Option Entry → Step SendState
chosen t s inputs e = if t then sender_entry_step s inputs e else Ends (bad_entry (TooMany s.at))

part_of_choice : (t : Bool) (s : SendState) (inputs : Role → List ℕ) (e : Option Entry) (k : ℕ)
    → ((entry : Entry) → e ≡ Some entry → 3 + entry_size entry ≤ k → ⊥)
    → IsPart (step_turns (chosen t s inputs e)) (of Events k)
part_of_choice true s inputs e k few = part_of_entry s inputs e k few
part_of_choice false s inputs e k few = tt

part_of_log : CutAfter → (s : SendState) (inputs : Role → List ℕ) (log : List ℕ) (k : ℕ)
    → entry_in sides.Send (take k log) ≡ None → IsPart (step_turns (sender_log_step s inputs log)) (of Events k)
part_of_log cut s inputs [] k none = tt
part_of_log cut s inputs (b ∷ log) k none =
    part_of_choice (nat_lt s.read most_entries) s inputs (entry_in sides.Send (b ∷ log)) k
    (λ entry is whole. not_none _ entry (cut sides.Send entry (b ∷ log) k is whole) none)

-- ---- which step it is

entry_is : (s : SendState) (inputs : Role → List ℕ) (log : List ℕ) (e : Option Entry) → 0 < length log
    → s.read < most_entries → entry_in sides.Send log ≡ e → sender_log_step s inputs log ≡ sender_entry_step s inputs e
entry_is s inputs [] e some few is = absurd (omega arith)
entry_is s inputs (b ∷ log) e some few is =
    ap (λ (t : Bool). chosen t s inputs (entry_in sides.Send (b ∷ log))) (lt-ltb s.read most_entries few)
    ∙ ap (sender_entry_step s inputs) is

some_entry : (log : List ℕ) (entry : Entry) → entry_in sides.Send log ≡ Some entry → 0 < length log
some_entry [] entry is = absurd (cc is)
some_entry (b ∷ log) entry is = omega arith

many_is : (s : SendState) (inputs : Role → List ℕ) (log : List ℕ) → 0 < length log → s.read ≡ most_entries
    → sender_log_step s inputs log ≡ Ends (bad_entry (TooMany s.at))
many_is s inputs [] some many = absurd (omega arith)
many_is s inputs (b ∷ log) some many =
    ap (λ (t : Bool). chosen t s inputs (entry_in sides.Send (b ∷ log)))
    (le-ltb s.read most_entries (omega (arith, many)))

-- ---- the turn

abbrev no_step : End → Step SendState
no_step last = Ends last

-- the reader is where the state says
pub record IsReadAt (s : SendState) (reader : LogPlace) : Type 0 where
  pub side_is : reader.side ≡ sides.Send
  pub at_is : s.at ≡ reader.at
  pub read_is : s.read ≡ reader.entries

module _ (laws : TurnLaws) (cut : CutAfter) (s : SendState) (inputs : Role
    → List ℕ) (old mid : Outside) (told : Tells old inputs) (others : (r : Role) → r ≢ Events
    → mid.left r ≡ old.left r) (same : mid.written ≡ old.written) (reader after : LogPlace) (at : IsReadAt s reader)
    (bytes : List ℕ) where
  -- the reader of a sender's log
  sent_in : (text : List ℕ) (e : Option Entry) → entry_in reader.side text ≡ e → entry_in sides.Send text ≡ e
  sent_in text e is = ap (λ (side : Side). entry_in side text) (sym at.side_is) ∙ is

  refused : (fault : LogFault) → send_step s inputs ≡ no_step (bad_entry fault)
      → Ended (send_step s inputs) (LogRefused fault) inputs old mid
  refused fault is = record {
    last = bad_entry fault;
    is = is;
    by = log_refused laws (LogRefused fault) inputs old mid told others same;
  }

  pub log_stops : (stop : LogStop) → EntryGives (Err stop) reader (inputs Events) bytes (mid.left Events)
      → MovesLog (Err stop) reader after
      → GivesUp (phase (log_stop stop)) (log_stop stop) (send_step s inputs) true inputs old mid
  log_stops stops.Read e moves = record {
    part = of Events e.taken;
    partly = part_of_log cut s inputs (inputs Events) e.taken (sent_in (take e.taken (inputs Events)) None e.none);
    could = refl;
    left = laws.one_read Events e.taken old mid inputs told e.gone others;
    written = same;
  }
  log_stops (stops.BadRecord place) e moves =
      refused (BadRecord place)
      (entry_is s inputs (inputs Events) None e.0 (omega (arith, moves.0, at.read_is))
      (sent_in (inputs Events) None e.1)
      ∙ ap (λ (n : ℕ). no_step (bad_entry (BadRecord n))) (at.at_is ∙ sym moves.1))
  log_stops (stops.TooMany place) e moves =
      refused (TooMany place)
      (many_is s inputs (inputs Events) e.0 (at.read_is ∙ moves.0)
      ∙ ap (λ (n : ℕ). no_step (bad_entry (TooMany n))) (at.at_is ∙ sym moves.1))

  -- at the end of the log
  module _ (e : EntryGives (Ok None) reader (inputs Events) bytes (mid.left Events)) (new : Outside) where
    end_is : send_step s inputs ≡ Ends (sender_read_all s.tally)
    end_is = ap (sender_log_step s inputs) e.0

    pub end_cut : GainsFronts (on Report (sender_counts s.tally)) mid.written new.written
        → GainsFronts (step_texts (send_step s inputs)) old.written new.written
    end_cut g =
        subst (λ (x : Step SendState). GainsFronts (step_texts x) old.written new.written) (sym end_is)
        (subst (λ (w : Role → Option (List ℕ)). GainsFronts (on Report (sender_counts s.tally)) w new.written) same g)

    pub log_ends : new.left ≡ mid.left → Gains (on Report (sender_counts s.tally)) mid.written new.written
        → Ended (send_step s inputs) Fine inputs old new
    log_ends still g = record {
      last = sender_read_all s.tally;
      is = end_is;
      by =
          laws.ends Fine no_bytes (on Report (sender_counts s.tally)) inputs old new
          (laws.none_read Events old new inputs told e.0 (ap (λ (l : Role → Option (List ℕ)). l Events) still
          ∙ e.1) (λ r other. ap (λ (l : Role → Option (List ℕ)). l r) still ∙ others r other))
          (subst (λ (w : Role → Option (List ℕ)). Gains (on Report (sender_counts s.tally)) w new.written) same g);
    }

  -- after an entry
  module _ (found : ℕ × Entry) (e : EntryGives (Ok (Some found)) reader (inputs Events) bytes (mid.left Events))
      (few : reader.entries < 16777216) where
    pub found_is : send_step s inputs ≡ sender_entry_step s inputs (Some found.1)
    found_is =
        let is : entry_in sides.Send (inputs Events) ≡ Some found.1 = sent_in (inputs Events) (Some found.1) e.0 in
        entry_is s inputs (inputs Events) (Some found.1) (some_entry (inputs Events) found.1 is)
        (omega (arith, few, at.read_is)) is

    pub found_told : Tells mid (left_after inputs (of Events (3 + entry_size found.1)))
    found_told = laws.one_read Events (3 + entry_size found.1) old mid inputs told e.2 others

-- what the reader says, by what it answered
pub gave_entry : (o known : Option (ℕ × Entry)) (reader : LogPlace) (rest bytes : List ℕ) (left : Option (List ℕ))
    → o ≡ known → EntryGives (Ok o) reader rest bytes left → EntryGives (Ok known) reader rest bytes left
gave_entry o known reader rest bytes left is gives =
    subst (λ (x : Option (ℕ × Entry)). EntryGives (Ok x) reader rest bytes left) is gives

pub moved_entry : (o known : Option (ℕ × Entry)) (reader after : LogPlace) → o ≡ known → MovesLog (Ok o) reader after
    → MovesLog (Ok known) reader after
moved_entry o known reader after is moves = subst (λ (x : Option (ℕ × Entry)). MovesLog (Ok x) reader after) is moves

-- an entry of a receiver's log is refused
pub other_entry : (s : SendState) (inputs : Role → List ℕ) (place : ℕ) (entry : Entry)
    → ((x : ℕ) × entry ≡ log_entry.Packet x) ⊎ (entry ≡ log_entry.Play) → place ≡ s.at
    → sender_entry_step s inputs (Some entry) ≡ no_step (bad_entry (BadRecord place))
other_entry s inputs place entry (inl packet) at =
    ap (λ (e : Entry). sender_entry_step s inputs (Some e)) packet.1
    ∙ ap (λ (n : ℕ). no_step (bad_entry (BadRecord n))) (sym at)
other_entry s inputs place entry (inr play) at =
    ap (λ (e : Entry). sender_entry_step s inputs (Some e)) play ∙ ap (λ (n : ℕ). no_step (bad_entry (BadRecord n)))
    (sym at)
