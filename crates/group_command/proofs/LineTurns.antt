-- The kinds of turns after a line.
use Rattle.std.proofs.Common.{◌≡◌, ℕ, Bool, true, List, Result, Ok, Err, IsErrAnd, sym, subst, ◌∙◌}
use Rattle.h263_outside.specs.Desk.{Outside, Rose}
use Rattle.h263_outside.specs.declared.desk.Role.{Role}
use Rattle.call_report.specs.declared.status.Status.{Status}
use Rattle.call_report.specs.declared.status.Status.TheVariants.{WriteFault}
use Rattle.call_report.specs.Status.{phase}
use Rattle.desk_program.specs.Run.{Step}
use Rattle.desk_program.specs.Ends.{GainsFronts, GivesUp, HasCause, IsStop, KeepsRoles, Went, step_texts}
use Rattle.group_command.specs.declared.room.Room.{Room}
use Rattle.group_command.specs.Group.{GroupState, room_may_read}
use Rattle.group_command.specs.Standing.{RoomReady, RoomStandsAt}
use Rattle.group_command.specs.Turning.{IsLineTurn}

module _ (m : Room) (mid new : Outside) (Begins : Outside → GroupState → (Role → List ℕ) → Type 0)
    (step : GroupState → (Role → List ℕ) → Step GroupState) where
  -- one that gives up
  pub gave_up : (r : Result Bool Status) (status : Status) → IsErrAnd r (λ z. z ≡ status)
      → IsStop status → HasCause status mid.faults new.faults → KeepsRoles mid new
      → ((old : Outside) (s : GroupState) (inputs : Role → List ℕ) → Begins old s inputs
      → GivesUp (phase status) status (step s inputs) true inputs old new)
      → IsLineTurn m r mid new Begins step
  gave_up (Ok b) status is stop cause rest gives = absurd is
  gave_up (Err z) status is stop cause rest gives = subst (λ (w : Status). IsLineTurn m (Err w) mid new Begins step)
      (sym is) (record {
        gives = gives;
        goes_on = tt;
        ready = tt;
        stop = stop;
        cause = cause;
        rest = rest;
      })

  -- one that goes on
  pub went_on : RoomReady m new.attached → KeepsRoles mid new
      → ((old : Outside) (s : GroupState) (inputs : Role → List ℕ) → Begins old s inputs
      → Went (step s inputs) (RoomStandsAt m) room_may_read true inputs old new)
      → IsLineTurn m (Ok true) mid new Begins step
  went_on ready rest gives = record {
    gives = gives;
    goes_on = tt;
    ready = ready;
    stop = tt;
    cause = tt;
    rest = rest;
  }
