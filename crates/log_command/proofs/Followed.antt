-- The run over a log, entry by entry.
use Rattle.std.proofs.Common.{◌≡◌, ℕ, zero, suc, ◌+◌, Bool, true, false, List, [], ◌∷◌, ◌++◌, take, drop, length, Option, Some, None, refl, sym, ap, subst, ◌∙◌, arith, nat_lt, if◌then◌else◌}
use Rattle.std.proofs.lemmas.Bool.{ltb-false, ltb-true}
use Rattle.std.proofs.lemmas.List.{append_assoc}
use Rattle.h263_outside.specs.declared.desk.Role.{Role}
use Rattle.h263_outside.specs.declared.desk.Role.TheVariants.{Events}
use Rattle.event_logs.specs.declared.entry.Entry.{Entry}
use Rattle.event_logs.specs.declared.entry.Entry.TheVariants.{Capture, Back, Packet, Play}
use Rattle.event_logs.specs.declared.entry.Side.{Side}
use Rattle.event_logs.specs.declared.fault.LogFault.{LogFault}
use Rattle.event_logs.specs.declared.fault.LogFault.TheVariants.{BadRecord, TooMany}
use Rattle.event_logs.specs.Entry.{entry_begun, entry_size, entry_in, reach, entry_reach}
use Rattle.event_logs.specs.Log.{Found, log_fault_from, first_log_fault, found_from, found_of, log_entries, log_fault}
use Rattle.desk_program.specs.Run.{Run, Step, left_after, follow, machine_run, silence, text_of, texts_of}
use Rattle.desk_program.specs.Run.Step.{Goes}
use Rattle.desk_program.specs.Texts.{of, only_at_ok}
use Rattle.log_command.specs.Log.{LogRules, LogState, after_entry, entry_step, entry_turn, log_run, log_step, other_step, refused_log, step_in}
use Rattle.log_command.specs.Followed.{FollowsItsLog, IsEnd, IsPacketEntry, mind_after, mind_with, text_after, text_with, turns_over}

-- a whole entry reaches to the end of its bytes
reach_is : (side : Side) (log : List ℕ) (e : Entry) → entry_in side log ≡ Some e → reach side log ≡ 3 + entry_size e
reach_is side log e is = by_test (nat_lt (length log) (reach side log)) is
  where
    by_test : (t : Bool) → (if t then None else entry_begun side log) ≡ Some e → reach side log ≡ 3 + entry_size e
    by_test true is = absurd (cc is)
    by_test false is = ap entry_reach is

module _ {State : Type 0} (does : LogRules State) where
  -- ---- what a run comes to, where these entries are still to come

  pub record Comes (mind : State) (ahead : List Found) (fault : Option LogFault) (run : Run) : Type 0 where
    pub accepted : List Found
    pub refused : List Found
    pub read : ahead ≡ accepted ++ refused
    pub turns : run.turns ≡ turns_over does mind accepted
    pub texts : (r : Role) → text_of run r ≡ text_after does mind accepted r
        ++ only_at_ok run.last.status (does.end_text (mind_after does mind accepted) r)
    pub end : IsEnd fault (does.plays (mind_after does mind accepted)) refused run.last.status

  comes_refused : (mind : State) (E : List Found) (F : Option LogFault) (rest : LogState State → (Role → ℕ)
      → Run) (fault : LogFault)
      → IsEnd F (does.plays mind) E (follow (refused_log {State = State} fault) rest).last.status
      → Comes mind E F (follow (refused_log fault) rest)
  comes_refused mind E F rest fault end = record {
    accepted = [];
    refused = E;
    read = refl;
    turns = refl;
    texts = λ r. refl;
    end = end;
  }

  -- an entry more
  comes_more : (mind : State) (found : Found) (E : List Found) (F : Option LogFault) (run : Run)
      → Comes (mind_with does mind found.entry found.bytes) E F run
      → Comes mind (found ∷ E) F
      (record {
        turns = entry_turn (3 + entry_size found.entry) (text_with does mind found.entry found.bytes) ∷
            run.turns;
        last = run.last;
      })
  comes_more mind found E F run comes =
      let now = mind_with does mind found.entry found.bytes in
      let text = text_with does mind found.entry found.bytes in
      record {
        accepted = found ∷ comes.accepted;
        refused = comes.refused;
        read = ap (λ (l : List Found). found ∷ l) comes.read;
        turns = ap (λ l. entry_turn (3 + entry_size found.entry) text ∷ l) comes.turns;
        texts = λ r.
            append_assoc (text r) (texts_of run.turns r) (run.last.texts r)
            ∙ ap (λ (l : List ℕ). text r ++ l) (comes.texts r)
            ∙ sym (append_assoc (text r) (text_after does now comes.accepted r)
            (only_at_ok run.last.status (does.end_text (mind_after does now comes.accepted) r)));
        end = comes.end;
      }

  -- ---- a turn

  module _ (s : LogState State) (n : ℕ) (rest : LogState State → (Role → ℕ) → Run) (log : List ℕ)
      (go : (mind : State) (size : ℕ)
      → Comes mind (found_of does.side n (s.at + size) (drop size log))
      (first_log_fault does.side n (s.at + size) (drop size log))
      (rest (after_entry s mind size) (of Events size))) where
    abbrev bytes : Entry → List ℕ
    bytes e = take (entry_size e) (drop 3 log)

    abbrev laters : ℕ → List Found
    laters size = found_of does.side n (s.at + size) (drop size log)

    abbrev later_fault : ℕ → Option LogFault
    later_fault size = first_log_fault does.side n (s.at + size) (drop size log)

    -- it goes on after the entry, which begins here
    goes_on : (e : Entry) → Comes s.mind (found_from (Some e) s.at log (laters (3 + entry_size e)))
        (log_fault_from (Some e) s.at (later_fault (3 + entry_size e)))
        (follow (Goes (after_entry s (mind_with does s.mind e (bytes e)) (3 + entry_size e))
        (entry_turn (3 + entry_size e) (text_with does s.mind e (bytes e)))) rest)
    goes_on e = comes_more s.mind (record { at = s.at; entry = e; bytes = bytes e }) (laters (3 + entry_size e))
        (later_fault (3 + entry_size e)) _ (go (mind_with does s.mind e (bytes e)) (3 + entry_size e))

    -- an entry of the other kind, of which there may be too many
    other_comes : (e : Entry) → (IsPacketEntry e → ⊥) → mind_with does s.mind e (bytes e) ≡ does.other s.mind (bytes e)
        → text_with does s.mind e (bytes e) ≡ does.other_text s.mind (bytes e)
        → Comes s.mind (found_from (Some e) s.at log (laters (3 + entry_size e)))
        (log_fault_from (Some e) s.at (later_fault (3 + entry_size e)))
        (follow (other_step does s (3 + entry_size e) (bytes e)) rest)
    other_comes e other mind text = by_test (nat_lt (does.plays s.mind) 1048576) refl
      where
        found : Found
        found = record { at = s.at; entry = e; bytes = bytes e }

        by_test : (t : Bool) → nat_lt (does.plays s.mind) 1048576 ≡ t
            → Comes s.mind (found ∷ laters (3 + entry_size e)) (later_fault (3 + entry_size e))
            (follow (if t then Goes (after_entry s (does.other s.mind (bytes e)) (3 + entry_size e))
            (entry_turn (3 + entry_size e) (does.other_text s.mind (bytes e))) else refused_log (TooMany s.at)) rest)
        by_test true few =
            subst (λ (x : State). Comes s.mind (found ∷ laters (3 + entry_size e)) (later_fault (3 + entry_size e))
            (follow (Goes (after_entry s x (3 + entry_size e))
            (entry_turn (3 + entry_size e) (does.other_text s.mind (bytes e)))) rest)) mind
            (subst (λ (x : Role → List ℕ). Comes s.mind (found ∷ laters (3 + entry_size e))
            (later_fault (3 + entry_size e))
            (follow (Goes (after_entry s (mind_with does s.mind e (bytes e)) (3 + entry_size e))
            (entry_turn (3 + entry_size e) x)) rest)) text
            (goes_on e))
        by_test false many = comes_refused s.mind (found ∷ laters (3 + entry_size e)) (later_fault (3 + entry_size e))
            rest
            (TooMany s.at) (other, ltb-false (does.plays s.mind) 1048576 many, refl)

    entry_comes : (o : Option Entry)
        → Comes s.mind (found_from o s.at log (laters (entry_reach o)))
        (log_fault_from o s.at (later_fault (entry_reach o)))
        (follow (entry_step does s log o) rest)
    entry_comes None = comes_refused s.mind [] (Some (BadRecord s.at)) rest (BadRecord s.at) refl
    entry_comes (Some (Packet len)) = goes_on (Packet len)
    entry_comes (Some Capture) = other_comes Capture (λ x. x) refl refl
    entry_comes (Some (Back len)) = other_comes (Back len) (λ x. x) refl refl
    entry_comes (Some Play) = other_comes Play (λ x. x) refl refl

    -- where none is whole nothing follows
    reached : (o : Option Entry) → entry_in does.side log ≡ o
        → Comes s.mind (found_from o s.at log (laters (reach does.side log)))
        (log_fault_from o s.at (later_fault (reach does.side log))) (follow (entry_step does s log o) rest)
    reached None is = entry_comes None
    reached (Some e) is =
        subst (λ (k : ℕ). Comes s.mind (found_from (Some e) s.at log (laters k))
        (log_fault_from (Some e) s.at (later_fault k)) (follow (entry_step does s log (Some e)) rest))
        (sym (reach_is does.side log e is)) (entry_comes (Some e))

  -- ---- the run

  abbrev or_many : Bool → LogState State → Step (LogState State) → Step (LogState State)
  or_many t s step = if t then step else refused_log (TooMany s.at)

  last_choice : (s : LogState State) (t : Bool) (step : Step (LogState State)) → s.entries + 0 ≡ 16777216
      → nat_lt s.entries 16777216 ≡ t
      → Comes s.mind [] (Some (TooMany s.at)) (follow (or_many t s step) (λ next taken. silence))
  last_choice s true step room few = absurd (omega (arith, ltb-true s.entries 16777216 few, room))
  last_choice s false step room many = comes_refused s.mind [] (Some (TooMany s.at)) (λ next taken. silence)
      (TooMany s.at) refl

  comes_end : (s : LogState State) (rest : LogState State → (Role → ℕ) → Run)
      → Comes s.mind [] None (follow (step_in does s []) rest)
  comes_end s rest = record {
    accepted = [];
    refused = [];
    read = refl;
    turns = refl;
    texts = λ r. refl;
    end = refl;
  }

  last_comes : (s : LogState State) (log : List ℕ) → s.entries + 0 ≡ 16777216
      → Comes s.mind (found_of does.side 0 s.at log) (first_log_fault does.side 0 s.at log)
      (follow (step_in does s log) (λ next taken. silence))
  unfolding found_of first_log_fault
  last_comes s [] room = comes_end s (λ next taken. silence)
  last_comes s (b ∷ log) room = last_choice s (nat_lt s.entries 16777216) _ room refl

  module _ (s : LogState State) (n : ℕ) (rest : LogState State → (Role → ℕ) → Run) (room : s.entries + suc n
      ≡ 16777216) where
    abbrev GoesOn : List ℕ → Type 0
    GoesOn log =
        (mind : State) (size : ℕ)
        → Comes mind (found_of does.side n (s.at + size) (drop size log))
        (first_log_fault does.side n (s.at + size) (drop size log)) (rest (after_entry s mind size) (of Events size))

    choice_comes : (t : Bool) (log : List ℕ) → GoesOn log → nat_lt s.entries 16777216 ≡ t
        → Comes s.mind (found_from (entry_in does.side log) s.at log (found_of does.side n (s.at + reach does.side log)
        (drop (reach does.side log) log)))
        (log_fault_from (entry_in does.side log) s.at (first_log_fault does.side n (s.at + reach does.side log)
        (drop (reach does.side log) log)))
        (follow (or_many t s (entry_step does s log (entry_in does.side log))) rest)
    choice_comes false log go many = absurd (omega (arith, ltb-false s.entries 16777216 many, room))
    choice_comes true log go few = reached s n rest log go (entry_in does.side log) refl

    step_comes : (log : List ℕ) → GoesOn log
        → Comes s.mind (found_of does.side (suc n) s.at log) (first_log_fault does.side (suc n) s.at log)
        (follow (step_in does s log) rest)
    unfolding found_of first_log_fault
    step_comes [] go = comes_end s rest
    step_comes (b ∷ log) go = choice_comes (nat_lt s.entries 16777216) (b ∷ log) go refl

  one_less : (entries n : ℕ) → entries + suc n ≡ 16777216 → entries + 1 + n ≡ 16777216
  one_less entries n room = omega (arith, room)

  run_comes : (n : ℕ) (s : LogState State) (inputs : Role → List ℕ) → s.entries + n ≡ 16777216
      → Comes s.mind (found_of does.side n s.at (inputs Events)) (first_log_fault does.side n s.at (inputs Events))
      (machine_run (log_step does) n s inputs)
  unfolding machine_run
  run_comes zero s inputs room = last_comes s (inputs Events) room
  run_comes (suc n) s inputs room =
      step_comes s n (λ next taken. machine_run (log_step does) n next (left_after inputs taken)) room (inputs Events)
      (λ mind size. run_comes n (after_entry s mind size) (left_after inputs (of Events size))
      (one_less s.entries n room))

  module _ (first : State) (head : Role → List ℕ) (inputs : Role → List ℕ) where
    abbrev begin : LogState State
    begin = record { mind = first; at = 0; entries = 0 }

    abbrev run : Run
    run = machine_run (log_step does) 16777216 begin (left_after inputs (λ r. 0))

    none_before : (n : ℕ) → 0 + n ≡ n
    none_before n = omega arith

    comes : Comes first (found_of does.side 16777216 0 (inputs Events)) (first_log_fault does.side 16777216 0
        (inputs Events))
        run
    comes = run_comes 16777216 begin (left_after inputs (λ r. 0)) (none_before 16777216)

    read_is : log_entries does.side (inputs Events) ≡ comes.accepted ++ comes.refused
    unfolding log_entries
    read_is = comes.read

    end_is : IsEnd (log_fault does.side (inputs Events)) (does.plays (mind_after does first comes.accepted))
        comes.refused run.last.status
    unfolding log_fault
    end_is = comes.end

    pub follows : FollowsItsLog does first head inputs (log_run does first head inputs)
    follows = record {
      accepted = comes.accepted;
      refused = comes.refused;
      read = read_is;
      turns = ap (λ l. record { taken = λ r. 0; whole = true; texts = head } ∷ l) comes.turns;
      texts = λ r. append_assoc (head r) (texts_of run.turns r) (run.last.texts r)
          ∙ ap (λ (l : List ℕ). head r ++ l) (comes.texts r);
      end = end_is;
    }
