-- The kinds of turns of a party.
use Rattle.std.proofs.Common.{◌≡◌, ℕ, Bool, true, List, Result, Ok, Err, IsErrAnd, sym, subst, ◌∙◌}
use Rattle.h263_outside.specs.Desk.{Outside, Rose}
use Rattle.h263_outside.specs.declared.desk.Role.{Role}
use Rattle.h263_outside.specs.declared.desk.Role.TheVariants.{Events}
use Rattle.loss_trace.specs.Place.{TracePlace}
use Rattle.call_report.specs.declared.status.Status.{Status}
use Rattle.call_report.specs.declared.status.Status.TheVariants.{WriteFault}
use Rattle.call_report.specs.Status.{phase}
use Rattle.desk_program.specs.Run.{Step}
use Rattle.desk_program.specs.Ends.{GainsFronts, GivesUp, HasCause, IsStop, KeepsRoles, Went, step_texts}
use Rattle.duplex_call.specs.declared.line.Party.{Party}
use Rattle.duplex_command.specs.declared.station.Station.{Station}
use Rattle.duplex_command.specs.Duplex.{DuplexState, talk_may_read}
use Rattle.duplex_command.specs.Standing.{StationsReady, StationsStand}
use Rattle.duplex_command.specs.Turning.{IsPartyTurn}

module _ (x : Party) (own far : Station) (mid new : Outside) (room : ℕ)
    (Begins : TracePlace → Outside → DuplexState → (Role → List ℕ) → Type 0)
    (step : DuplexState → (Role → List ℕ) → Step DuplexState) where
  -- one that gives up
  pub gave_up : (r : Result Bool Status) (status : Status) → IsErrAnd r (λ z. z ≡ status)
      → IsStop status → HasCause status mid.faults new.faults → KeepsRoles mid new
      → ((trace : TracePlace) (old : Outside) (s : DuplexState) (inputs : Role → List ℕ) → Begins trace old s inputs
      → GivesUp (phase status) status (step s inputs) true inputs old new)
      → IsPartyTurn x own far r mid new room Begins step
  gave_up (Ok b) status is stop cause rest gives = absurd is
  gave_up (Err z) status is stop cause rest gives =
      subst (λ (w : Status). IsPartyTurn x own far (Err w) mid new room Begins step) (sym is) (record {
        gives = gives;
        goes_on = tt;
        ready = tt;
        stop = stop;
        cause = cause;
        rest = rest;
      })

  -- one that can't write
  pub was_cut : (r : Result Bool Status) (status : Status) → IsErrAnd r (λ z. z ≡ status)
      → status ≡ WriteFault → Rose mid.faults.write new.faults.write → KeepsRoles mid new
      → ((trace : TracePlace) (old : Outside) (s : DuplexState) (inputs : Role → List ℕ) → Begins trace old s inputs
      → GainsFronts (step_texts (step s inputs)) old.written new.written)
      → IsPartyTurn x own far r mid new room Begins step
  was_cut (Ok b) status is kind rose rest gives = absurd is
  was_cut (Err z) status is kind rose rest gives =
      subst (λ (w : Status). IsPartyTurn x own far (Err w) mid new room Begins step) (sym (is ∙ kind)) (record {
        gives = gives;
        goes_on = tt;
        ready = tt;
        stop = tt;
        cause = rose;
        rest = rest;
      })

  -- one that goes on
  pub went_on : StationsReady own far room → KeepsRoles mid new
      → ((trace : TracePlace) (old : Outside) (s : DuplexState) (inputs : Role → List ℕ) → Begins trace old s inputs
      → Went (step s inputs) (λ next rest. StationsStand x own far trace next (rest Events)) talk_may_read true inputs
      old
      new)
      → IsPartyTurn x own far (Ok true) mid new room Begins step
  went_on ready rest gives = record {
    gives = gives;
    goes_on = tt;
    ready = ready;
    stop = tt;
    cause = tt;
    rest = rest;
  }
