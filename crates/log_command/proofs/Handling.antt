-- One turn over a log, by what the reader and the command say.
use Rattle.std.proofs.Common.{◌≡◌, ◌≢◌, ℕ, true, List, [], take, drop, Option, Some, None, Err, refl, sym, ap, ◌∙◌, subst, arith}
use Rattle.h263_outside.specs.Desk.{Outside}
use Rattle.h263_outside.specs.declared.desk.Role.{Role}
use Rattle.h263_outside.specs.declared.desk.Role.TheVariants.{Events}
use Rattle.event_logs.specs.declared.entry.Side.{Side}
use Rattle.event_logs.specs.declared.fault.LogFault.TheVariants.{BadRecord, TooMany}
use Rattle.event_logs.specs.declared.fault.LogStop.{LogStop}
use Rattle.event_logs.specs.declared.fault.LogStop.TheVariants as reader_stops
use Rattle.event_logs.specs.Entry.{entry_in}
use Rattle.event_logs.specs.Place.{LogPlace}
use Rattle.event_logs.specs.Reader.{EntryGives, MovesLog}
use Rattle.call_report.specs.declared.status.Status.{Status}
use Rattle.call_report.specs.declared.status.Status.TheVariants.{Ok as Fine, LogRefused}
use Rattle.call_report.specs.Status.{log_stop, phase}
use Rattle.desk_program.specs.Run.{Step, left_after, refusal}
use Rattle.desk_program.specs.Run.Step.{Goes, Ends}
use Rattle.desk_program.specs.Ends.{Tells, Gains, GainsFronts, Ended, GivesUp, Went, step_texts}
use Rattle.desk_program.specs.Texts.{no_bytes, of}
use Rattle.desk_program.specs.Laws.{TurnLaws}
use Rattle.log_command.specs.Log.{LogRules, LogState, all_read, entry_turn, log_step, refused_log, step_in}
use Rattle.log_command.proofs.Entries.{StaysWhole, entry_next, log_part, none_next}

module _ {State : Type 0} (does : LogRules State) (laws : TurnLaws) (s : LogState State) (inputs : Role
    → List ℕ) (old mid : Outside) (told : Tells old inputs) (others : (r : Role) → r ≢ Events
    → mid.left r ≡ old.left r) (same : mid.written ≡ old.written) where
  -- the log is refused
  pub refuses : (status : Status) → log_step does s inputs ≡ Ends (refusal status)
      → Ended (log_step does s inputs) status inputs old mid
  refuses status is = record { last = refusal status; is = is; by = laws.refuses status inputs old mid same }

  -- the reader has stopped
  pub stops : StaysWhole → (reader after : LogPlace) (buf : List ℕ) (stop : LogStop) → reader.side ≡ does.side
      → s.at ≡ reader.at → s.entries ≡ reader.entries
      → EntryGives (Err stop) reader (inputs Events) buf (mid.left Events) → MovesLog (Err stop) reader after
      → GivesUp (phase (log_stop stop)) (log_stop stop) (log_step does s inputs) true inputs old mid
  stops stays reader after buf reader_stops.Read side at count e moves = record {
    part = of Events e.taken;
    partly = log_part does s stays (inputs Events) e.taken
        (subst (λ (x : Side). entry_in x (take e.taken (inputs Events)) ≡ None) side e.none);
    could = refl;
    left = laws.one_read Events e.taken old mid inputs told e.gone others;
    written = same;
  }
  stops stays reader after buf (reader_stops.BadRecord place) side at count e moves =
      refuses (LogRefused (BadRecord place))
      (entry_next does s (inputs Events) None (omega (arith, moves.0, count)) e.0
      (subst (λ (x : Side). entry_in x (inputs Events) ≡ None) side e.1)
      ∙ ap (λ (n : ℕ). refused_log (BadRecord n)) (at ∙ sym moves.1))
  stops stays reader after buf (reader_stops.TooMany place) side at count e moves =
      refuses (LogRefused (TooMany place))
      (none_next does s (inputs Events) (count ∙ moves.0) e.0 ∙ ap (λ (n : ℕ). refused_log (TooMany n)) (at
      ∙ sym moves.1))

  -- the log is at its end
  end_is : inputs Events ≡ [] → log_step does s inputs ≡ Ends (all_read does s)
  end_is none = ap (step_in does s) none

  pub ends : (new : Outside) → inputs Events ≡ [] → mid.left Events ≡ Some [] → new.left ≡ mid.left
      → Gains (does.end_text s.mind) mid.written new.written → Ended (log_step does s inputs) Fine inputs old new
  ends new none gone still gains = record {
    last = all_read does s;
    is = end_is none;
    by =
        laws.ends Fine no_bytes (does.end_text s.mind) inputs old new
        (laws.none_read Events old new inputs told none (ap (λ (l : Role → Option (List ℕ)). l Events) still
        ∙ gone) (λ r other. ap (λ (l : Role → Option (List ℕ)). l r) still ∙ others r other))
        (subst (λ (w : Role → Option (List ℕ)). Gains (does.end_text s.mind) w new.written) same gains);
  }

  pub end_cut : (new : Outside) → inputs Events ≡ []
      → GainsFronts (does.end_text s.mind) mid.written new.written
      → GainsFronts (step_texts (log_step does s inputs)) old.written new.written
  end_cut new none g =
      subst (λ (x : Step (LogState State)). GainsFronts (step_texts x) old.written new.written) (sym (end_is none))
      (subst (λ (w : Role → Option (List ℕ)). GainsFronts (does.end_text s.mind) w new.written) same g)

  -- an entry was handled
  module _ (next : LogState State) (size : ℕ) (texts : Role → List ℕ) (is : log_step does s inputs
      ≡ Goes next (entry_turn size texts)) (new : Outside) where
    pub goes : (stands : LogState State → (Role → List ℕ) → Type 0) → stands next (left_after inputs (of Events size))
        → mid.left Events ≡ Some (drop size (inputs Events)) → new.left ≡ mid.left
        → Gains texts mid.written new.written → Went (log_step does s inputs) stands (λ _. true) true inputs old new
    goes stands kept gone still gains = record {
      next = next;
      turn = entry_turn size texts;
      could = refl;
      is = is;
      kept = kept;
      whole = refl;
      left = laws.one_read Events size old new inputs told (ap (λ (l : Role → Option (List ℕ)). l Events) still
          ∙ gone) (λ r other. ap (λ (l : Role → Option (List ℕ)). l r) still ∙ others r other);
      written = subst (λ (w : Role → Option (List ℕ)). Gains texts w new.written) same gains;
    }

    pub cut : GainsFronts texts mid.written new.written
        → GainsFronts (step_texts (log_step does s inputs)) old.written new.written
    cut g =
        subst (λ (x : Step (LogState State)). GainsFronts (step_texts x) old.written new.written) (sym is)
        (subst (λ (w : Role → Option (List ℕ)). GainsFronts texts w new.written) same g)
