-- What is answered, by what a call has answered.
use Rattle.std.proofs.Common.{◌≡◌, ℕ, Bool, List, Result, Ok, Err, OnOk, OnErr, IfErr, true, sym, subst}
use Rattle.std.specs.Prelude.{IsErrAnd}
use Rattle.h263_outside.specs.Desk.{Faults, Outside}
use Rattle.h263_outside.specs.declared.desk.Role.{Role}
use Rattle.call_report.specs.declared.status.Status.{Status}
use Rattle.call_report.specs.declared.status.Status.TheVariants.{OutOfMemory, WriteFault}
use Rattle.call_report.specs.Status.{phase}
use Rattle.desk_program.specs.Run.{Step}
use Rattle.desk_program.specs.Ends.{GainsFronts, GivesUp, HasCause, TurnGives, start_status, step_texts}
use Rattle.send_command.specs.Send.{SendState}

-- what holds anyway holds after an error
pub on_err : {T E : Type 0} (P : Type 0) (r : Result T E) → P → OnErr r P
on_err P (Ok x) p = tt
on_err P (Err e) p = p

pub on_ok : {T E : Type 0} (P : Type 0) (r : Result T E) → P → OnOk r P
on_ok P (Ok x) p = p
on_ok P (Err e) p = tt

pub on_err_so : {T E : Type 0} (P Q : Type 0) (r : Result T E) → OnErr r P → (P → Q) → OnErr r Q
on_err_so P Q (Ok x) p f = tt
on_err_so P Q (Err e) p f = f p

pub on_ok_so : {T E : Type 0} (P Q : Type 0) (r : Result T E) → OnOk r P → (P → Q) → OnOk r Q
on_ok_so P Q (Ok x) p f = f p
on_ok_so P Q (Err e) p f = tt

-- a write that failed
pub if_cut : {T : Type 0} (P : Type 0) (Q : Status → Type 0) (r : Result T Status)
    → IfErr r (λ status. status ≡ WriteFault) → OnErr r P → (P → Q WriteFault) → IfErr r Q
if_cut P Q (Ok x) is p f = tt
if_cut P Q (Err e) is p f = subst Q (sym is) (f p)

-- a call that gave up with a status
pub if_err : {T : Type 0} (Q : Status → Type 0) (r : Result T Status) (s : Status) → IsErrAnd r (λ x. x ≡ s) → Q s
    → IfErr r Q
if_err Q (Ok x) s gave q = absurd gave
if_err Q (Err e) s gave q = subst Q (sym gave) q

-- a turn that gives up with a status
pub turn_err : (r : Result Bool Status) (s : Status) (step : Step SendState) (after : SendState → (Role → List ℕ)
    → Type 0) (inputs : Role → List ℕ) (old new : Outside)
    → IsErrAnd r (λ x. x ≡ s) → GivesUp (phase s) s step true inputs old new
    → TurnGives r step after (λ _. true) true inputs old new
turn_err (Ok b) s step after inputs old new gave gives = absurd gave
turn_err (Err x) s step after inputs old new gave gives =
    subst (λ (x : Status). GivesUp (phase x) x step true inputs old new) (sym gave) gives

-- a turn whose write failed
pub turn_cut : (r : Result Bool Status) (s : Status) (step : Step SendState) (after : SendState → (Role → List ℕ)
    → Type 0) (inputs : Role → List ℕ) (old new : Outside)
    → IsErrAnd r (λ x. x ≡ s) → s ≡ WriteFault → GainsFronts (step_texts step) old.written new.written
    → TurnGives r step after (λ _. true) true inputs old new
turn_cut r s step after inputs old new gave is fronts =
    turn_err r s step after inputs old new gave (subst (λ (x : Status). GivesUp (phase x) x step true inputs old new)
    (sym is) fronts)

-- a start for which there was no memory, where no call had failed
pub starved_cause : {Machine : Type 0} (r : Result Machine Status) (old new : Faults)
    → IsErrAnd r (λ x. x ≡ OutOfMemory) → new ≡ old → HasCause (start_status r) old new
starved_cause (Ok m) old new is quiet = absurd is
starved_cause (Err x) old new is quiet = subst (λ (y : Status). HasCause y old new) (sym is) quiet
