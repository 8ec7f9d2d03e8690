-- What a run over a log comes to, as a whole: a turn for each entry that it accepts, in the order of
-- the log, and an end that its bytes call for.
use Rattle.std.specs.Prelude.{◌≡◌, ℕ, ◌+◌, ◌≤◌, true, List, [], ◌∷◌, ◌++◌, Option, Some, None}
use Rattle.h263_outside.specs.declared.desk.Role.{Role}
use Rattle.h263_outside.specs.declared.desk.Role.TheVariants.{Events}
use Rattle.event_logs.specs.declared.entry.Entry.{Entry}
use Rattle.event_logs.specs.declared.entry.Entry.TheVariants.{Capture, Back, Packet, Play}
use Rattle.event_logs.specs.declared.fault.LogFault.{LogFault}
use Rattle.event_logs.specs.declared.fault.LogFault.TheVariants.{TooMany}
use Rattle.event_logs.specs.Entry.{entry_size}
use Rattle.event_logs.specs.Log.{Found, log_entries, log_fault}
use Rattle.call_report.specs.declared.status.Status.{Status}
use Rattle.call_report.specs.declared.status.Status.TheVariants.{Ok as Fine, LogRefused}
use Rattle.desk_program.specs.Run.{Turn, Run, text_of}
use Rattle.desk_program.specs.Texts.{log_read_out, no_bytes, only_at_ok}
use Rattle.log_command.specs.Log.{LogRules, entry_turn}

-- this entry is a packet
abbrev pub IsPacketEntry : Entry → Type 0
IsPacketEntry (Packet len) = Unit {0}
IsPacketEntry _ = ⊥

-- The log is read out, up to its first fault; or the next entry is no packet, and there were as many
-- plays as there may be.
abbrev pub IsEnd : Option LogFault → ℕ → List Found → Status → Type 0
IsEnd fault plays [] status = status ≡ log_read_out fault
IsEnd fault plays (found ∷ more) status =
    (IsPacketEntry found.entry → ⊥) × (1048576 ≤ plays) × (status ≡ LogRefused (TooMany found.at))

-- the turn before the first entry: the head is written
abbrev pub head_turn : (Role → List ℕ) → Turn
head_turn head = record { taken = no_bytes; whole = true; texts = head }

module _ {State : Type 0} (rules : LogRules State) where
  -- what a command keeps in mind after an entry with these bytes, and what it writes then
  abbrev pub mind_with : State → Entry → List ℕ → State
  mind_with s (Packet len) bytes = rules.packet s bytes
  mind_with s Capture bytes = rules.other s bytes
  mind_with s (Back len) bytes = rules.other s bytes
  mind_with s Play bytes = rules.other s bytes

  abbrev pub text_with : State → Entry → List ℕ → Role → List ℕ
  text_with s (Packet len) bytes = rules.packet_text s bytes
  text_with s Capture bytes = rules.other_text s bytes
  text_with s (Back len) bytes = rules.other_text s bytes
  text_with s Play bytes = rules.other_text s bytes

  -- what it keeps in mind after these entries, in their order, and what it has written
  abbrev pub mind_after : State → List Found → State
  mind_after s [] = s
  mind_after s (found ∷ more) = mind_after (mind_with s found.entry found.bytes) more

  abbrev pub text_after : State → List Found → Role → List ℕ
  text_after s [] r = []
  text_after s (found ∷ more) r =
      text_with s found.entry found.bytes r ++ text_after (mind_with s found.entry found.bytes) more r

  -- a turn for each of them: the entry is taken with its letter and the number of its bytes
  abbrev pub turns_over : State → List Found → List Turn
  turns_over s [] = []
  turns_over s (found ∷ more) =
      entry_turn (3 + entry_size found.entry) (text_with s found.entry found.bytes)
      ∷ turns_over (mind_with s found.entry found.bytes) more

  -- The entries that it accepts are the first ones of the log, one in each turn but the first, which
  -- writes the head. What it keeps in mind and writes is what its rules make of them, one after the
  -- other, and it ends because of what comes after them.
  pub record FollowsItsLog (first : State) (head : Role → List ℕ) (inputs : Role → List ℕ) (run : Run) : Type 0 where
    pub accepted : List Found
    pub refused : List Found
    pub read : log_entries rules.side (inputs Events) ≡ accepted ++ refused
    pub turns : run.turns ≡ head_turn head ∷ turns_over first accepted
    pub texts : (r : Role) → text_of run r
        ≡ head r ++ (text_after first accepted r
        ++ only_at_ok run.last.status (rules.end_text (mind_after first accepted) r))
    pub end : IsEnd (log_fault rules.side (inputs Events))
        (rules.plays (mind_after first accepted)) refused run.last.status
