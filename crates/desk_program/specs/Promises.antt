-- What is promised of a whole run, clause by clause.
use Rattle.std.specs.Prelude.{ℕ, ◌≡◌, ◌⊎◌, true, List, ◌++◌, Option}
use Rattle.h263_outside.specs.Desk.{Outside, Faults, SomeRose}
use Rattle.h263_outside.specs.declared.desk.Role.{Role}
use Rattle.call_report.specs.declared.status.Status.{Status}
use Rattle.call_report.specs.declared.status.Status.TheVariants.{OutOfMemory}
use Rattle.call_report.specs.Status.{Phase, phase}
use Rattle.call_report.specs.Status.Phase.{finished, refused, unread, unwritten, starved, unasked, unopened}
use Rattle.desk_program.specs.Lines.{end_text}
use Rattle.desk_program.specs.Run.{Run, text_of, taken_of}
use Rattle.desk_program.specs.Ends.{Gains, IsCutAfter, IsCutIn, IsSoFar, IsWholeOnly, LeavesBehind}

-- a status after which all that the run says was written
abbrev pub SettlesIn : Phase → Type 0
SettlesIn finished = Unit {0}
SettlesIn refused = Unit {0}
SettlesIn _ = ⊥

abbrev pub IsSettled : Status → Type 0
IsSettled status = SettlesIn (phase status)

-- a status after which a part of it was written
abbrev pub StopsIn : Phase → Type 0
StopsIn starved = Unit {0}
StopsIn unread = Unit {0}
StopsIn unwritten = Unit {0}
StopsIn _ = ⊥

abbrev pub IsStopped : Status → Type 0
IsStopped status = StopsIn (phase status)

-- a role could not be attached
abbrev pub UnopenedIn : Phase → Type 0
UnopenedIn (unopened role) = Unit {0}
UnopenedIn _ = ⊥

abbrev pub IsUnopened : Status → Type 0
IsUnopened status = UnopenedIn (phase status)

-- the words were a command
abbrev pub AskedIn : Phase → Type 0
AskedIn unasked = ⊥
AskedIn _ = Unit {0}

abbrev pub IsNotUsage : Status → Type 0
IsNotUsage status = AskedIn (phase status)

-- status: with no fault of the desk it is that of the run, or want of memory
abbrev pub HasStatus : Run → Status → Faults → Faults → Type 0
HasStatus run status old new = SomeRose old new ⊎ (status ≡ run.last.status) ⊎ (status ≡ OutOfMemory)

-- texts: the status is that of the run, and each output has gained exactly its text; `after` is
-- what an end writes besides
pub record HasTexts (run : Run) (after : Status → Role → List ℕ)
    (status : Status) (old new : Role → Option (List ℕ)) : Type 0 where
  pub known : status ≡ run.last.status
  pub written : Gains (λ r. text_of run r ++ after status r) old new

-- prefixes: of some first turns, which are the same for all outputs, each has gained exactly its text,
-- and then the line of the status; or, where a write failed, a prefix of what comes next, or of the line
-- of an end that came early
abbrev pub PrefixesIn : Phase → Status
    → Run → (Status → Role → List ℕ) → (Role → Option (List ℕ)) → (Role → Option (List ℕ)) → Type 0
PrefixesIn starved status run after old new = IsSoFar run (after status) old new
PrefixesIn unread status run after old new = IsSoFar run (after status) old new
PrefixesIn unwritten status run after old new = IsCutIn run after old new ⊎ IsCutAfter run after old new
PrefixesIn _ status run after old new = Unit {0}

abbrev pub HasPrefixes : Run → (Status → Role → List ℕ)
    → Status → (Role → Option (List ℕ)) → (Role → Option (List ℕ)) → Type 0
HasPrefixes run after status old new = PrefixesIn (phase status) status run after old new

-- unread: nothing was read, and the line of the status alone was written
pub record ReadsNothing (status : Status) (old new : Outside) : Type 0 where
  pub left : new.left ≡ old.left
  pub written : Gains (end_text status) old.written new.written

-- flushed: unless a write failed, a flush has seen all that was written at its place, and nothing was
-- written since
abbrev pub FlushedIn : Phase → Outside → Type 0
FlushedIn unwritten new = Unit {0}
FlushedIn _ new = new.flushed ≡ true

abbrev pub IsFlushed : Status → Outside → Type 0
IsFlushed status new = FlushedIn (phase status) new

-- taken_input: just what the run takes is gone, as far as its end says it; after a failed read the
-- outputs are those of what was taken whole
abbrev pub TakesIn : Phase → Status
    → Run → (Status → Role → List ℕ) → (Role → List ℕ) → (Role → Option (List ℕ)) → Outside → Type 0
TakesIn finished status run after inputs old new = LeavesBehind run.last.taken inputs (taken_of run.turns) new
TakesIn refused status run after inputs old new = LeavesBehind run.last.taken inputs (taken_of run.turns) new
TakesIn unread status run after inputs old new = IsWholeOnly run (after status) inputs old new
TakesIn _ status run after inputs old new = Unit {0}

abbrev pub TakesInput : Status
    → Run → (Status → Role → List ℕ) → (Role → List ℕ) → (Role → Option (List ℕ)) → Outside → Type 0
TakesInput status run after inputs old new = TakesIn (phase status) status run after inputs old new
