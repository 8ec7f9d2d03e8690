-- A command over the log of one side, entry by entry.
use Rattle.std.specs.Prelude.{◌≡◌, ℕ, ◌+◌, ◌≤◌, Bool, true, nat_lt, List, [], ◌∷◌, length, take, drop, Option, Some, None, if◌then◌else◌}
use Rattle.h263_outside.specs.declared.desk.Role.{Role}
use Rattle.h263_outside.specs.declared.desk.Role.TheVariants.{Events}
use Rattle.event_logs.specs.declared.entry.Entry.{Entry}
use Rattle.event_logs.specs.declared.entry.Entry.TheVariants.{Packet}
use Rattle.event_logs.specs.declared.entry.Side.{Side}
use Rattle.event_logs.specs.declared.fault.LogFault.{LogFault}
use Rattle.event_logs.specs.declared.fault.LogFault.TheVariants.{BadRecord, TooMany}
use Rattle.event_logs.specs.Entry.{entry_size, entry_in}
use Rattle.call_report.specs.Status.{Phase}
use Rattle.call_report.specs.Status.Phase.{starved, unwritten}
use Rattle.call_report.specs.declared.status.Status.TheVariants.{Ok as Fine, LogRefused}
use Rattle.desk_program.specs.Run.{Turn, End, Step, Run, refusal, run_from}
use Rattle.desk_program.specs.Run.Step.{Goes, Ends}
use Rattle.desk_program.specs.Ends.{GainsFronts}
use Rattle.desk_program.specs.Texts.{no_bytes, of}
use Rattle.log_command.specs.declared.machine.LogMachine.{LogMachine}

-- ---- what a command says of itself

-- whose log it is; what comes of a packet and of an entry of the other kind by its bytes, and what is
-- written then; how many plays there were; and what is written at the end of the log
pub record LogRules (State : Type 0) : Type 0 where
  pub side : Side
  pub packet : State → List ℕ → State
  pub packet_text : State → List ℕ → Role → List ℕ
  pub other : State → List ℕ → State
  pub other_text : State → List ℕ → Role → List ℕ
  pub plays : State → ℕ
  pub end_text : State → Role → List ℕ

-- a start that gives up: memory was refused to it, or a write failed
abbrev pub StopsAtHead : Phase → (Role → List ℕ) → (Role → Option (List ℕ)) → (Role → Option (List ℕ)) → Type 0
StopsAtHead starved head old new = new ≡ old
StopsAtHead unwritten head old new = GainsFronts head old new
StopsAtHead _ head old new = ⊥

-- it is ready after some number of entries, this many at most
pub record ReadyAfter (most : ℕ) (ready : ℕ → Type 0) : Type 0 where
  pub count : ℕ
  pub few : count ≤ most
  pub is : ready count

-- ---- the steps

-- what the command keeps in mind, the byte where the next entry of the log begins, and how many
-- were read
pub record LogState (State : Type 0) : Type 0 where
  pub mind : State
  pub at : ℕ
  pub entries : ℕ

-- before the first entry the head is written, and nothing is read
abbrev pub log_begin : {State : Type 0} → State → (Role → List ℕ) → Step (LogState State)
log_begin first head =
    Goes (record { mind = first; at = 0; entries = 0 })
    (record { taken = no_bytes; whole = true; texts = head })

-- the state after an entry of this many bytes
abbrev pub after_entry : {State : Type 0} → LogState State → State → ℕ → LogState State
after_entry s mind size = record { mind = mind; at = s.at + size; entries = s.entries + 1 }

abbrev pub entry_turn : ℕ → (Role → List ℕ) → Turn
entry_turn size texts = record { taken = of Events size; whole = true; texts = texts }

abbrev pub packet_step : {State : Type 0} → LogRules State → LogState State → ℕ → List ℕ → Step (LogState State)
packet_step rules s size bytes =
    Goes (after_entry s (rules.packet s.mind bytes) size) (entry_turn size (rules.packet_text s.mind bytes))

-- the log is refused at the entry that is next
abbrev pub refused_log : {State : Type 0} → LogFault → Step (LogState State)
refused_log fault = Ends (refusal (LogRefused fault))

-- there are 1,048,576 plays at most
abbrev pub other_step : {State : Type 0} → LogRules State → LogState State → ℕ → List ℕ → Step (LogState State)
other_step rules s size bytes =
    if nat_lt (rules.plays s.mind) 1048576
    then Goes (after_entry s (rules.other s.mind bytes) size) (entry_turn size (rules.other_text s.mind bytes))
    else refused_log (TooMany s.at)

-- an entry has its bytes after its letter and their number
abbrev pub entry_step : {State : Type 0} → LogRules State → LogState State → List ℕ → Option Entry
    → Step (LogState State)
entry_step rules s log None = refused_log (BadRecord s.at)
entry_step rules s log (Some (Packet len)) = packet_step rules s (3 + len) (take len (drop 3 log))
entry_step rules s log (Some entry) = other_step rules s (3 + entry_size entry) (take (entry_size entry) (drop 3 log))

-- the log is at its end
abbrev pub all_read : {State : Type 0} → LogRules State → LogState State → End
all_read rules s = record { status = Fine; taken = λ _. Some 0; texts = rules.end_text s.mind }

-- a log has 16,777,216 entries at most
abbrev pub step_in : {State : Type 0} → LogRules State → LogState State → List ℕ → Step (LogState State)
step_in rules s [] = Ends (all_read rules s)
step_in rules s (b ∷ log) =
    if nat_lt s.entries 16777216
    then entry_step rules s (b ∷ log) (entry_in rules.side (b ∷ log))
    else refused_log (TooMany s.at)

abbrev pub log_step : {State : Type 0} → LogRules State → LogState State → (Role → List ℕ) → Step (LogState State)
log_step rules s inputs = step_in rules s (inputs Events)

-- the whole run
abbrev pub log_run : {State : Type 0} → LogRules State → State → (Role → List ℕ) → (Role → List ℕ) → Run
log_run rules first head inputs = run_from (log_begin first head) (log_step rules) 16777216 inputs

-- ---- what the machine keeps in mind, and what it is ready for

pub record LogStands {C State : Type 0} (stands : C → State → Type 0)
    (m : LogMachine C) (s : LogState State) (inputs : Role → List ℕ) : Type 0 where
  pub mind : stands m.command s.mind
  pub at : s.at ≡ m.reader.at
  pub entries : s.entries ≡ m.reader.entries

pub record LogOpens (opens : (Role → Bool) → Type 0) (attached : Role → Bool) : Type 0 where
  pub events : attached Events ≡ true
  pub command : opens attached

pub record LogReady {C : Type 0} (whose : Side) (ready : C → ℕ → (Role → Bool) → Type 0)
    (m : LogMachine C) (attached : Role → Bool) : Type 0 where
  pub events : attached Events ≡ true
  pub command : ready m.command m.reader.entries attached
  pub buffer : length m.buffer.items ≡ 65535
  pub side : m.reader.side ≡ whose
