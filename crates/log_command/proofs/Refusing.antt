-- A run over a log ends with `Ok`, or refuses its log.
use Rattle.std.proofs.Common.{◌≡◌, ℕ, zero, suc, Bool, true, false, List, [], ◌∷◌, Option, Some, None, refl, nat_lt}
use Rattle.h263_outside.specs.declared.desk.Role.{Role}
use Rattle.h263_outside.specs.declared.desk.Role.TheVariants.{Events}
use Rattle.event_logs.specs.declared.entry.Entry.{Entry}
use Rattle.event_logs.specs.declared.entry.Entry.TheVariants.{Capture, Back, Packet, Play}
use Rattle.event_logs.specs.declared.fault.LogFault.{LogFault}
use Rattle.event_logs.specs.Entry.{entry_in}
use Rattle.call_report.specs.declared.status.Status.{Status}
use Rattle.call_report.specs.declared.status.Status.TheVariants.{Ok as Fine, LogRefused}
use Rattle.desk_program.specs.Run.{Run, left_after, follow, machine_run, silence}
use Rattle.log_command.specs.Log.{LogRules, LogState, entry_step, log_run, log_step, other_step, step_in}

-- a status of another kind
pub record IsOther (status : Status) : Type 0 where
  pub fine : Fine ≡ status → ⊥
  pub log : (fault : LogFault) → LogRefused fault ≡ status → ⊥

module _ {State : Type 0} (does : LogRules State) (status : Status) (other : IsOther status) where
  module _ (s : LogState State) (rest : LogState State → (Role → ℕ) → Run) (more : (next : LogState State) (taken : Role
      → ℕ) → (rest next taken).last.status ≡ status → ⊥) where
    at_other : (size : ℕ) (bytes : List ℕ) → (follow (other_step does s size bytes) rest).last.status ≡ status → ⊥
    at_other size bytes ends = within (nat_lt (does.plays s.mind) 1048576) refl ends
      where
        within : (t : Bool) → nat_lt (does.plays s.mind) 1048576 ≡ t
            → (follow (other_step does s size bytes) rest).last.status ≡ status → ⊥
        within true is ends = more _ _ (rw is at ends)
        within false is ends = other.log _ (rw is at ends)

    at_entry : (log : List ℕ) (o : Option Entry) → (follow (entry_step does s log o) rest).last.status ≡ status → ⊥
    at_entry log None ends = other.log _ ends
    at_entry log (Some (Packet len)) ends = more _ _ ends
    at_entry log (Some (Back len)) ends = at_other _ _ ends
    at_entry log (Some Capture) ends = at_other _ _ ends
    at_entry log (Some Play) ends = at_other _ _ ends

    at_log : (log : List ℕ) → (follow (step_in does s log) rest).last.status ≡ status → ⊥
    at_log [] ends = other.fine ends
    at_log (b ∷ log) ends = within (nat_lt s.entries 16777216) refl ends
      where
        within : (t : Bool) → nat_lt s.entries 16777216 ≡ t → (follow (step_in does s (b ∷ log)) rest).last.status
            ≡ status → ⊥
        within true is ends = at_entry (b ∷ log) (entry_in does.side (b ∷ log)) (rw is at ends)
        within false is ends = other.log _ (rw is at ends)

  run_refuses_none : (n : ℕ) (s : LogState State) (inputs : Role → List ℕ)
      → (machine_run (log_step does) n s inputs).last.status ≡ status → ⊥
  unfolding machine_run
  run_refuses_none zero s inputs ends = at_log s (λ next taken. silence) (λ next taken is. other.fine is)
      (inputs Events) ends
  run_refuses_none (suc n) s inputs ends =
      at_log s (λ next taken. machine_run (log_step does) n next (left_after inputs taken))
      (λ next taken is. run_refuses_none n next (left_after inputs taken) is) (inputs Events) ends

  pub none_refused : (first : State) (head : Role → List ℕ) (inputs : Role → List ℕ)
      → (log_run does first head inputs).last.status ≡ status → ⊥
  none_refused first head inputs ends = run_refuses_none 16777216 _ (left_after inputs (λ _. 0)) ends
