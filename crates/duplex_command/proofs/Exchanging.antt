-- A turn of the second party, by that of the first on the desk with both exchanged.
use Rattle.std.proofs.Common.{◌≡◌, ℕ, ◌+◌, Bool, true, false, List, [], ◌∷◌, drop, Some, Result, Ok, Err, IfErr, refl, sym, ap, ◌∙◌, subst}
use Rattle.std.specs.Prelude.{◌&&◌, nat_le}
use mathlib.Core.Path.{fun_ext}
use Rattle.h263_outside.specs.Desk.{Outside, IsInput, exchanged, exchanged_outside}
use Rattle.h263_outside.specs.Gains.{Front, gained}
use Rattle.h263_outside.specs.declared.desk.Role.{Role}
use Rattle.h263_outside.specs.declared.desk.Role.TheVariants.{Video, Events, Pictures, Wire, Report, Video2, Pictures2}
use Rattle.call_report.specs.declared.status.Status.{Status}
use Rattle.call_report.specs.declared.status.Status.TheVariants.{Ok as Fine, OutOfMemory, Usage, ReadFault, WriteFault, VideoRefused, TraceRefused, LogRefused, OpenFault, Video2Refused}
use Rattle.desk_program.specs.Run.{Turn, Step, left_after}
use Rattle.desk_program.specs.Run.Step.{Goes, Ends}
use Rattle.desk_program.specs.Ends.{Ended, Gains, GainsFronts, HasCause, IsPart, IsStop, KeepsRoles, Lost, OnEnd, OnGoing, Tells, TurnGives, Went, holds, step_texts, step_turns, turn_status}
use Rattle.duplex_command.specs.Exchange.{for_second, second_end, second_result, second_status, second_step, second_turn}

pub twice : (r : Role) → exchanged (exchanged r) ≡ r
twice Video = refl
twice Events = refl
twice Pictures = refl
twice Wire = refl
twice Report = refl
twice Video2 = refl
twice Pictures2 = refl

input_too : (r : Role) → IsInput r → IsInput (exchanged r)
input_too Video is = is
input_too Events is = is
input_too Pictures is = is
input_too Wire is = is
input_too Report is = is
input_too Video2 is = is
input_too Pictures2 is = is

-- ---- the desk

-- the exchanged desk tells what the desk tells, exchanged
pub told_at_second : (name : ℕ) (o : Outside) (inputs : Role → List ℕ) → Tells o inputs
    → Tells (exchanged_outside name o) (for_second inputs)
told_at_second name o inputs told = λ r is. told (exchanged r) (input_too r is)

-- what is the same with both exchanged is the same
pub unexchanged : {A : Type 0} (f g : Role → A) → for_second f ≡ for_second g → f ≡ g
unexchanged {A = A} f g same =
    fun_ext (λ r. subst (λ (q : Role). f q ≡ g q) (twice r) (ap (λ (h : Role → A). h (exchanged r)) same))

-- the loans below the first one
abbrev pub loans_below : List ℕ → List ℕ
loans_below [] = []
loans_below (x ∷ xs) = xs

module _ (a b : ℕ) (old new : Outside) (kept : KeepsRoles (exchanged_outside a old) (exchanged_outside b new)) where
  -- the desk's own roles and loans are kept
  pub roles_at_second : KeepsRoles old new
  roles_at_second = record {
    attached = unexchanged new.attached old.attached kept.attached;
    name = unexchanged new.name old.name kept.name;
    faults = kept.faults;
    loans = ap loans_below kept.loans;
  }

-- ---- answers

pub cause_at_second : (result : Result Bool Status) (old new : Outside)
    → HasCause (turn_status result) old.faults new.faults
    → HasCause (turn_status (second_result result)) old.faults new.faults
cause_at_second (Ok goes) old new c = c
cause_at_second (Err Fine) old new c = c
cause_at_second (Err OutOfMemory) old new c = c
cause_at_second (Err Usage) old new c = c
cause_at_second (Err ReadFault) old new c = c
cause_at_second (Err WriteFault) old new c = c
cause_at_second (Err (VideoRefused fault)) old new c = c
cause_at_second (Err (TraceRefused fault)) old new c = c
cause_at_second (Err (LogRefused fault)) old new c = c
cause_at_second (Err (OpenFault role)) old new c = c
cause_at_second (Err (Video2Refused fault)) old new c = c

pub stop_at_second : (result : Result Bool Status) → IfErr result IsStop → IfErr (second_result result) IsStop
stop_at_second (Ok goes) s = s
stop_at_second (Err Fine) s = s
stop_at_second (Err OutOfMemory) s = s
stop_at_second (Err Usage) s = s
stop_at_second (Err ReadFault) s = s
stop_at_second (Err WriteFault) s = s
stop_at_second (Err (VideoRefused fault)) s = s
stop_at_second (Err (TraceRefused fault)) s = s
stop_at_second (Err (LogRefused fault)) s = s
stop_at_second (Err (OpenFault role)) s = s
stop_at_second (Err (Video2Refused fault)) s = s

pub going_at_second : (result : Result Bool Status) (p : Type 0) → OnGoing result p → OnGoing (second_result result) p
going_at_second (Ok true) p is = is
going_at_second (Ok false) p is = is
going_at_second (Err status) p is = is

pub ending_at_second : (result : Result Bool Status) (p : Type 0) → OnEnd result p → OnEnd (second_result result) p
ending_at_second (Ok true) p is = is
ending_at_second (Ok false) p is = is
ending_at_second (Err status) p is = is

-- ---- a turn

swap_ends : (a b c d : Bool) → (a && b && c && d) ≡ (a && d && c && b)
swap_ends true true true true = refl
swap_ends true true true false = refl
swap_ends true true false true = refl
swap_ends true true false false = refl
swap_ends true false true true = refl
swap_ends true false true false = refl
swap_ends true false false true = refl
swap_ends true false false false = refl
swap_ends false b c d = refl

held : (t : Turn) (k : Role → ℕ) → holds (second_turn t) (for_second k) ≡ holds t k
held t k = swap_ends t.whole (nat_le (t.taken Video2) (k Video2)) (nat_le (t.taken Events) (k Events))
    (nat_le (t.taken Video) (k Video))

module _ {State : Type 0} (stands : State → (Role → List ℕ) → Type 0) (reads : State → Bool) (inputs : Role
    → List ℕ) (a b : ℕ) (old new : Outside) where
  -- what is left where as much is gone as the second party says
  left_too : (taken : Role → ℕ) → Tells (exchanged_outside b new) (left_after (for_second inputs) taken)
      → Tells new (left_after inputs (for_second taken))
  left_too taken told = λ r is. subst (λ (q : Role). new.left q ≡ Some (drop (taken (exchanged r)) (inputs q)))
      (twice r) (told (exchanged r) (input_too r is))

  gains_too : (texts : Role → List ℕ) → Gains texts (exchanged_outside a old).written (exchanged_outside b new).written
      → Gains (for_second texts) old.written new.written
  gains_too texts gains = λ r. subst (λ (q : Role). new.written q ≡ gained (old.written q) (texts (exchanged r)))
      (twice r) (gains (exchanged r))

  went : (step : Step State) (now : Bool)
      → Went step (λ s rest. stands s (for_second rest)) reads now (for_second inputs) (exchanged_outside a old)
      (exchanged_outside b new)
      → Went (second_step step) stands reads now inputs old new
  went step now w = record {
    next = w.next;
    turn = second_turn w.turn;
    could = w.could;
    is = ap second_step w.is;
    kept = subst (stands w.next) (λ i r. drop (w.turn.taken (exchanged r)) (inputs (twice r i))) w.kept;
    whole = w.whole;
    left = left_too w.turn.taken w.left;
    written = gains_too w.turn.texts w.written;
  }

  ended : (step : Step State) (status : Status)
      → Ended step status (for_second inputs) (exchanged_outside a old) (exchanged_outside b new)
      → Ended (second_step step) (second_status status) inputs old new
  ended step status e = record {
    last = second_end e.last;
    is = ap second_step e.is;
    by = record {
      known = ap second_status e.by.known;
      left = λ r is k taken. subst (λ (q : Role). new.left q ≡ Some (drop (0 + k) (inputs q))) (twice r)
          (e.by.left (exchanged r) (input_too r is) k taken);
      written = gains_too e.last.texts e.by.written;
    };
  }

  part : (step : Step State) (k : Role → ℕ) → IsPart (step_turns step) k
      → IsPart (step_turns (second_step step)) (for_second k)
  part (Goes next turn) k is = held turn k ∙ is
  part (Ends last) k is = is

  lost : (step : Step State) (now : Bool)
      → Lost step now (for_second inputs) (exchanged_outside a old) (exchanged_outside b new)
      → Lost (second_step step) now inputs old new
  lost step now l = record {
    part = for_second l.part;
    partly = part step l.part l.partly;
    could = l.could;
    left = left_too l.part l.left;
    written = unexchanged new.written old.written l.written;
  }

  texts_same : (step : Step State) (r : Role) → step_texts (second_step step) r ≡ step_texts step (exchanged r)
  texts_same (Goes next turn) r = refl
  texts_same (Ends last) r = refl

  fronts : (step : Step State)
      → GainsFronts (step_texts step) (exchanged_outside a old).written (exchanged_outside b new).written
      → GainsFronts (step_texts (second_step step)) old.written new.written
  fronts step f = λ r. subst (λ (text : List ℕ). Front text (old.written r) (new.written r)) (sym (texts_same step r))
      (subst (λ (q : Role). Front (step_texts step (exchanged r)) (old.written q) (new.written q)) (twice r)
      (f (exchanged r)))

-- What a turn gives of the desk with both exchanged, one of the second party gives of the desk
-- itself. The names are those of the loans on which the exchanged desk stood and stands.
module _ {State : Type 0} (stands : State → (Role → List ℕ) → Type 0) (reads : State → Bool) (now : Bool) (inputs : Role
    → List ℕ) (a b : ℕ) (old new : Outside) (step : Step State) where
  pub turn_at_second : (result : Result Bool Status)
      → TurnGives result step (λ s rest. stands s (for_second rest)) reads now (for_second inputs)
      (exchanged_outside a old) (exchanged_outside b new)
      → TurnGives (second_result result) (second_step step) stands reads now inputs old new
  turn_at_second (Ok true) g = went stands reads inputs a b old new step now g
  turn_at_second (Ok false) g = ended stands reads inputs a b old new step Fine g
  turn_at_second (Err Fine) g = g
  turn_at_second (Err OutOfMemory) g = unexchanged new.written old.written g
  turn_at_second (Err Usage) g = g
  turn_at_second (Err ReadFault) g = lost stands reads inputs a b old new step now g
  turn_at_second (Err WriteFault) g = fronts stands reads inputs a b old new step g
  turn_at_second (Err (VideoRefused fault)) g = ended stands reads inputs a b old new step (VideoRefused fault) g
  turn_at_second (Err (TraceRefused fault)) g = ended stands reads inputs a b old new step (TraceRefused fault) g
  turn_at_second (Err (LogRefused fault)) g = ended stands reads inputs a b old new step (LogRefused fault) g
  turn_at_second (Err (OpenFault role)) g = g
  turn_at_second (Err (Video2Refused fault)) g = ended stands reads inputs a b old new step (Video2Refused fault) g
