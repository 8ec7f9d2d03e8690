-- How a machine's run ends over a desk, against what it is to do.
use Rattle.std.specs.Prelude.{ℕ, ◌+◌, ◌≡◌, Bool, true, false, ◌&&◌, nat_le, List, [], ◌∷◌, ◌++◌, ◌⊎◌, Option, None, Some, Result, Ok, Err, All, IfSome}
use Rattle.h263_outside.specs.Desk.{Outside, Faults, NoneFalls, Rose, IsInput}
use Rattle.h263_outside.specs.Gains.{gained, Front}
use Rattle.h263_outside.specs.declared.desk.Role.{Role}
use Rattle.h263_outside.specs.declared.desk.Role.TheVariants.{Video, Events, Video2}
use Rattle.call_report.specs.declared.status.Status.{Status}
use Rattle.call_report.specs.declared.status.Status.TheVariants.{Ok as Fine}
use Rattle.call_report.specs.Status.{Phase, phase}
use Rattle.call_report.specs.Status.Phase.{finished, refused, unread, unwritten, starved, unasked, unopened}
use Rattle.desk_program.specs.Run.{Turn, End, Step, Run, left_after, texts_of, text_of, taken_of, IsWholeTurn}
use Rattle.desk_program.specs.Run.Step.{Goes, Ends}

-- the desk tells that this much is left of each input
abbrev pub Tells : Outside → (Role → List ℕ) → Type 0
Tells outside inputs = (r : Role) → IsInput r → outside.left r ≡ Some (inputs r)

-- each output has gained its text
abbrev pub Gains : (Role → List ℕ) → (Role → Option (List ℕ)) → (Role → Option (List ℕ)) → Type 0
Gains texts old new = (r : Role) → new r ≡ gained (old r) (texts r)

-- each output has gained a prefix of its text
abbrev pub GainsFronts : (Role → List ℕ) → (Role → Option (List ℕ)) → (Role → Option (List ℕ)) → Type 0
GainsFronts texts old new = (r : Role) → Front (texts r) (old r) (new r)

-- this many bytes of an input are gone, where the number is said
abbrev pub IsGone : Option ℕ → ℕ → Type 0
IsGone None n = Unit {0}
IsGone (Some k) n = k ≡ n

-- what is left after an end: where it says how much it takes, just that is gone
abbrev pub LeavesBehind : (Role → Option ℕ) → (Role → List ℕ) → (Role → ℕ) → Outside → Type 0
LeavesBehind taken inputs before now = (r : Role) → IsInput r
    → (k : ℕ) → taken r ≡ Some k → now.left r ≡ Some (left_after inputs (λ r. before r + k) r)

-- these bytes hold the whole turn
abbrev pub holds : Turn → (Role → ℕ) → Bool
holds t k =
    t.whole && nat_le (t.taken Video) (k Video)
    && nat_le (t.taken Events) (k Events) && nat_le (t.taken Video2) (k Video2)

-- these bytes do not hold the first of the turns
abbrev pub IsPart : List Turn → (Role → ℕ) → Type 0
IsPart [] k = Unit {0}
IsPart (t ∷ turns) k = holds t k ≡ false

-- the roles stay attached by their names, no count falls, and the desk stands on the same loans
pub record KeepsRoles (old new : Outside) : Type 0 where
  pub attached : new.attached ≡ old.attached
  pub name : new.name ≡ old.name
  pub faults : NoneFalls old.faults new.faults
  pub loans : new.loans ≡ old.loans

-- a fault comes only where its own count rose, and want of memory only where none did
abbrev pub CauseIn : Phase → Faults → Faults → Type 0
CauseIn unread old new = Rose old.read new.read
CauseIn unwritten old new = Rose old.write new.write
CauseIn (unopened role) old new = Rose old.attach new.attach
CauseIn starved old new = new ≡ old
CauseIn _ old new = Unit {0}

abbrev pub HasCause : Status → Faults → Faults → Type 0
HasCause status old new = CauseIn (phase status) old new

-- a status that comes once all is attached
abbrev pub ComesLater : Phase → Type 0
ComesLater unasked = ⊥
ComesLater (unopened role) = ⊥
ComesLater _ = Unit {0}

abbrev pub IsLater : Status → Type 0
IsLater status = ComesLater (phase status)

-- a status that comes where a role is not attached
abbrev pub ComesAtOpening : Phase → Type 0
ComesAtOpening (unopened role) = Unit {0}
ComesAtOpening starved = Unit {0}
ComesAtOpening _ = ⊥

abbrev pub IsOpening : Status → Type 0
IsOpening status = ComesAtOpening (phase status)

-- a status with which a start gives up
abbrev pub ComesAtStart : Phase → Type 0
ComesAtStart finished = ⊥
ComesAtStart unasked = ⊥
ComesAtStart (unopened role) = ⊥
ComesAtStart _ = Unit {0}

abbrev pub IsUnstarted : Status → Type 0
IsUnstarted status = ComesAtStart (phase status)

-- a status with which a machine gives up that was started: it has its memory
abbrev pub ComesAtStop : Phase → Type 0
ComesAtStop finished = ⊥
ComesAtStop starved = ⊥
ComesAtStop unasked = ⊥
ComesAtStop (unopened role) = ⊥
ComesAtStop _ = Unit {0}

abbrev pub IsStop : Status → Type 0
IsStop status = ComesAtStop (phase status)

-- a status other than want of memory
abbrev pub FedIn : Phase → Type 0
FedIn starved = ⊥
FedIn _ = Unit {0}

abbrev pub IsNotStarved : Status → Type 0
IsNotStarved status = FedIn (phase status)

-- ---- one turn

-- the machine has handled an event, and goes on
pub record Went {State : Type 0} (step : Step State) (stands : State → (Role → List ℕ) → Type 0)
    (reads : State → Bool) (now : Bool) (inputs : Role → List ℕ) (old new : Outside) : Type 0 where
  pub next : State
  pub turn : Turn
  pub could : now ≡ true
  pub is : step ≡ Goes next turn
  pub kept : stands next (left_after inputs turn.taken)
  pub whole : turn.whole ≡ reads next
  pub left : Tells new (left_after inputs turn.taken)
  pub written : Gains turn.texts old.written new.written

-- this end has come: its status, and what it takes and writes
pub record EndsBy (last : End)
    (status : Status) (inputs : Role → List ℕ) (old new : Outside) : Type 0 where
  pub known : status ≡ last.status
  pub left : LeavesBehind last.taken inputs (λ _. 0) new
  pub written : Gains last.texts old.written new.written

-- the machine has ended with this status
pub record Ended {State : Type 0} (step : Step State)
    (status : Status) (inputs : Role → List ℕ) (old new : Outside) : Type 0 where
  pub last : End
  pub is : step ≡ Ends last
  pub by : EndsBy last status inputs old new

-- the text of a step
abbrev pub step_texts : {State : Type 0} → Step State → Role → List ℕ
step_texts (Goes next turn) = turn.texts
step_texts (Ends last) = last.texts

abbrev pub step_turns : {State : Type 0} → Step State → List Turn
step_turns (Goes next turn) = turn ∷ []
step_turns (Ends last) = []

-- a read has failed: some bytes were taken that do not hold the whole event, and nothing was written
pub record Lost {State : Type 0}
    (step : Step State) (reads : Bool) (inputs : Role → List ℕ) (old new : Outside) : Type 0 where
  pub part : Role → ℕ
  pub partly : IsPart (step_turns step) part
  pub could : reads ≡ true
  pub left : Tells new (left_after inputs part)
  pub written : new.written ≡ old.written

-- what a turn that gives up makes of a desk
abbrev pub GivesUp : {State : Type 0}
    → Phase → Status → Step State → Bool → (Role → List ℕ) → Outside → Outside → Type 0
GivesUp refused status step now inputs old new = Ended step status inputs old new
GivesUp unread status step now inputs old new = Lost step now inputs old new
GivesUp unwritten status step now inputs old new = GainsFronts (step_texts step) old.written new.written
GivesUp starved status step now inputs old new = new.written ≡ old.written
GivesUp finished status step now inputs old new = ⊥
GivesUp unasked status step now inputs old new = ⊥
GivesUp (unopened role) status step now inputs old new = ⊥

-- what one turn makes of a desk, by what it answers
abbrev pub TurnGives : {State : Type 0}
    → Result Bool Status → Step State → (State → (Role → List ℕ) → Type 0)
    → (State → Bool) → Bool → (Role → List ℕ) → Outside → Outside → Type 0
TurnGives (Ok true) step stands reads now inputs old new = Went step stands reads now inputs old new
TurnGives (Ok false) step stands reads now inputs old new = Ended step Fine inputs old new
TurnGives (Err status) step stands reads now inputs old new = GivesUp (phase status) status step now inputs old new

-- what the start makes of a desk
abbrev pub StartGives : {Machine State : Type 0}
    → Result Machine Status → Step State → (Machine → State → (Role → List ℕ) → Type 0)
    → (State → Bool) → (Role → List ℕ) → Outside → Outside → Type 0
StartGives (Ok machine) step stands reads inputs old new = Went step (stands machine) reads true inputs old new
StartGives (Err status) step stands reads inputs old new = GivesUp (phase status) status step true inputs old new

-- one turn more was taken
abbrev pub Falls : Result Bool Status → ℕ → ℕ → Type 0
Falls (Ok true) old new = new + 1 ≡ old
Falls (Ok false) old new = Unit {0}
Falls (Err status) old new = Unit {0}

-- where it goes on
abbrev pub OnGoing : Result Bool Status → Type 0 → Type 0
OnGoing (Ok true) p = p
OnGoing (Ok false) p = Unit {0}
OnGoing (Err status) p = Unit {0}

-- where it has come to its end
abbrev pub OnEnd : Result Bool Status → Type 0 → Type 0
OnEnd (Ok true) p = Unit {0}
OnEnd (Ok false) p = p
OnEnd (Err status) p = Unit {0}

-- where a run is read to its end, or refused
abbrev pub OnceSettled : Phase → Type 0 → Type 0
OnceSettled finished p = p
OnceSettled refused p = p
OnceSettled _ p = Unit {0}

-- where a machine has come to its end, or refuses
abbrev pub OnSettled : Result Bool Status → Type 0 → Type 0
OnSettled (Ok true) p = Unit {0}
OnSettled (Ok false) p = p
OnSettled (Err status) p = OnceSettled (phase status) p

-- after `Ok` and a refusal
abbrev pub AfterAll : Status → Type 0 → Type 0
AfterAll status p = OnceSettled (phase status) p

-- the status of a start: it goes on, or ends with one
abbrev pub start_status : {Machine : Type 0} → Result Machine Status → Status
start_status (Ok _) = Fine
start_status (Err status) = status

-- the status of a turn: it goes on, or ends with one
abbrev pub turn_status : Result Bool Status → Status
turn_status (Ok _) = Fine
turn_status (Err status) = status

-- ---- a whole run

-- after `Ok` the input whose end the run waits for is empty
abbrev pub ReadOutIn : Phase → Option Role → Outside → Type 0
ReadOutIn finished source now = IfSome source (λ role. now.left role ≡ Some [])
ReadOutIn _ source now = Unit {0}

abbrev pub IsReadOut : Status → Option Role → Outside → Type 0
IsReadOut status source now = ReadOutIn (phase status) source now

-- ends that write nothing
abbrev pub silent : Status → Role → List ℕ
silent status r = []

-- exactly the texts, with their status, and just what the run takes is gone
pub record IsExactly (run : Run) (after : Status → Role → List ℕ) (status : Status)
    (inputs : Role → List ℕ) (old : Role → Option (List ℕ)) (new : Outside) : Type 0 where
  pub known : status ≡ run.last.status
  pub written : Gains (λ r. text_of run r ++ after status r) old new.written
  pub left : LeavesBehind run.last.taken inputs (taken_of run.turns) new

-- exactly the texts of some first turns, which are the same for all outputs
pub record IsSoFar (run : Run) (after : Role → List ℕ) (old new : Role → Option (List ℕ)) : Type 0 where
  pub done : List Turn
  pub rest : List Turn
  pub front : done ++ rest ≡ run.turns
  pub written : Gains (λ r. texts_of done r ++ after r) old new

-- exactly the texts of the turns that were taken whole
pub record IsWholeOnly (run : Run) (after : Role → List ℕ)
    (inputs : Role → List ℕ) (old : Role → Option (List ℕ)) (new : Outside) : Type 0 where
  pub done : List Turn
  pub rest : List Turn
  pub front : done ++ rest ≡ run.turns
  pub whole : All IsWholeTurn done
  pub part : Role → ℕ
  pub partly : IsPart rest part
  pub left : Tells new (left_after inputs (λ r. taken_of done r + part r))
  pub written : Gains (λ r. texts_of done r ++ after r) old new.written

-- what comes next: the text of the first of these turns, or that of the end and what it writes besides
abbrev pub next_texts : List Turn → End → (Status → Role → List ℕ) → Role → List ℕ
next_texts [] last after r = last.texts r ++ after last.status r
next_texts (t ∷ rest) last after r = t.texts r

-- the texts of some first turns, which are the same for all outputs, and then a prefix of what comes next
pub record IsCutIn (run : Run) (after : Status → Role → List ℕ) (old new : Role → Option (List ℕ)) : Type 0 where
  pub done : List Turn
  pub rest : List Turn
  pub front : done ++ rest ≡ run.turns
  pub piece : Role → List ℕ
  pub cut : Role → List ℕ
  pub whole : (r : Role) → piece r ++ cut r ≡ next_texts rest run.last after r
  pub written : Gains (λ r. texts_of done r ++ piece r) old new

-- a status that comes before all is written
abbrev pub ComesEarly : Phase → Type 0
ComesEarly finished = ⊥
ComesEarly refused = ⊥
ComesEarly _ = Unit {0}

-- the texts of some first turns, and then a prefix of what an end writes that came early
pub record IsCutAfter (run : Run) (after : Status → Role → List ℕ) (old new : Role → Option (List ℕ)) : Type 0 where
  pub done : List Turn
  pub rest : List Turn
  pub front : done ++ rest ≡ run.turns
  pub other : Status
  pub early : ComesEarly (phase other)
  pub piece : Role → List ℕ
  pub cut : Role → List ℕ
  pub whole : (r : Role) → piece r ++ cut r ≡ after other r
  pub written : Gains (λ r. texts_of done r ++ piece r) old new

-- how a run has ended, by its status; `after` is what the end with a status writes besides
abbrev pub EndedIn : Phase → Run → (Status → Role → List ℕ)
    → Status → (Role → List ℕ) → (Role → Option (List ℕ)) → Outside → Type 0
EndedIn finished run after status inputs old new = IsExactly run after status inputs old new
EndedIn refused run after status inputs old new = IsExactly run after status inputs old new
EndedIn unread run after status inputs old new = IsWholeOnly run (after status) inputs old new
EndedIn starved run after status inputs old new = IsSoFar run (after status) old new.written
EndedIn unwritten run after status inputs old new =
    IsCutIn run after old new.written ⊎ IsCutAfter run after old new.written
EndedIn unasked run after status inputs old new = Gains (after status) old new.written
EndedIn (unopened role) run after status inputs old new = Gains (after status) old new.written

abbrev pub HasEnded : Run → (Status → Role → List ℕ)
    → Status → (Role → List ℕ) → (Role → Option (List ℕ)) → Outside → Type 0
HasEnded run after status inputs old new = EndedIn (phase status) run after status inputs old new
