-- How a machine begins, and how it gives up before the first entry.
use Rattle.std.proofs.Common.{◌≡◌, ℕ, true, List, Result, Ok, Err, IfErr, IsErrAnd, refl, sym, subst}
use Rattle.h263_outside.specs.Desk.{Outside}
use Rattle.h263_outside.specs.declared.desk.Role.{Role}
use Rattle.call_report.specs.Status.{Phase, phase}
use Rattle.call_report.specs.Status.Phase.{finished, refused, unread, unwritten, starved, unasked, unopened}
use Rattle.call_report.specs.declared.status.Status.{Status}
use Rattle.desk_program.specs.Run.{left_after}
use Rattle.desk_program.specs.Ends.{ComesAtStart, Gains, GivesUp, IsUnstarted, Tells, Went}
use Rattle.desk_program.specs.Laws.{TurnLaws}
use Rattle.desk_program.specs.Texts.{no_bytes}
use Rattle.log_command.specs.Log.{LogState, StopsAtHead, log_begin}

pub begun : {State : Type 0} (laws : TurnLaws) (first : State) (head : Role → List ℕ) (stands : LogState State
    → (Role → List ℕ) → Type 0) (inputs : Role → List ℕ) (old new : Outside)
    → Tells old inputs → new.left ≡ old.left → Gains head old.written new.written
    → stands (record { mind = first; at = 0; entries = 0 }) (left_after inputs no_bytes)
    → Went (log_begin first head) stands (λ _. true) true inputs old new
begun laws first head stands inputs old new told same gains kept = record {
  next = record { mind = first; at = 0; entries = 0 };
  turn = record { taken = no_bytes; whole = true; texts = head };
  could = refl;
  is = refl;
  kept = kept;
  whole = refl;
  left = laws.no_byte old new inputs same told;
  written = gains;
}

gives_up : {State : Type 0} (p : Phase) (status : Status) (first : State) (head : Role → List ℕ) (inputs : Role
    → List ℕ) (old new : Outside)
    → StopsAtHead p head old.written new.written → GivesUp p status (log_begin first head) true inputs old new
gives_up finished status first head inputs old new stops = absurd stops
gives_up refused status first head inputs old new stops = absurd stops
gives_up unread status first head inputs old new stops = absurd stops
gives_up unwritten status first head inputs old new stops = stops
gives_up starved status first head inputs old new stops = stops
gives_up unasked status first head inputs old new stops = absurd stops
gives_up (unopened role) status first head inputs old new stops = absurd stops

comes_at_start : (p : Phase) (head : Role → List ℕ) (old new : Outside) → StopsAtHead p head old.written new.written
    → ComesAtStart p
comes_at_start finished head old new stops = absurd stops
comes_at_start refused head old new stops = absurd stops
comes_at_start unread head old new stops = absurd stops
comes_at_start unwritten head old new stops = tt
comes_at_start starved head old new stops = tt
comes_at_start unasked head old new stops = absurd stops
comes_at_start (unopened role) head old new stops = absurd stops

-- a start that gives up
module _ (status : Status) (head : Role
    → List ℕ) (old new : Outside) (stops : StopsAtHead (phase status) head old.written new.written) where
  pub first_stops : {State : Type 0} (first : State) (inputs : Role → List ℕ)
      → GivesUp (phase status) status (log_begin first head) true inputs old new
  first_stops first inputs = gives_up (phase status) status first head inputs old new stops

  pub is_unstarted : IsUnstarted status
  is_unstarted = comes_at_start (phase status) head old new stops

-- what its status comes to, by the answer
pub by_answer : {Machine : Type 0} (r : Result Machine Status) (status : Status) (P : Status → Type 0)
    → IsErrAnd r (λ x. x ≡ status) → P status → IfErr r P
by_answer (Ok machine) status P is p = absurd is
by_answer (Err x) status P is p = subst P (sym is) p
