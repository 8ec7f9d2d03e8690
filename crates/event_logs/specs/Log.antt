-- A whole log, and what a reader makes of a text: entries, up to the first fault.
use Rattle.std.specs.Prelude.{ℕ, zero, suc, ◌≡◌, ◌+◌, ◌≤◌, List, [], ◌∷◌, ◌++◌, length, take, drop, Option, Some, None}
use Rattle.std.specs.List.{flat_map}
use Rattle.byteorder.specs.Endian.{big_number}
use Rattle.event_logs.specs.declared.entry.Side.{Side}
use Rattle.event_logs.specs.declared.entry.Entry.{Entry}
use Rattle.event_logs.specs.declared.fault.LogFault.{LogFault}
use Rattle.event_logs.specs.declared.fault.LogFault.TheVariants.{BadRecord, TooMany}
use Rattle.event_logs.specs.Entry.{entry_with, entry_size, reach, entry_in}

-- the parts of an entry's text
pub record EntryParts : Type 0 where
  pub letter : ℕ
  pub size : List ℕ
  pub bytes : List ℕ

abbrev pub text_of_entry : EntryParts → List ℕ
text_of_entry parts = (parts.letter ∷ parts.size) ++ parts.bytes

-- parts that are an entry of a side's log: two bytes tell the number of its bytes
pub record IsEntry (side : Side) (entry : Entry) (parts : EntryParts) : Type 0 where
  pub two : length parts.size ≡ 2
  pub told : big_number 2 parts.size ≡ length parts.bytes
  pub says : entry_with side parts.letter (length parts.bytes) ≡ Some entry

-- an entry with its bytes, and the byte where it begins
pub record Found : Type 0 where
  pub at : ℕ
  pub entry : Entry
  pub bytes : List ℕ

-- parts that are these entries, one after the other from a byte on
abbrev pub Are : Side → ℕ → List Found → List EntryParts → Type 0
Are side at [] [] = Unit {0}
Are side at [] (parts ∷ more) = ⊥
Are side at (found ∷ others) [] = ⊥
Are side at (found ∷ others) (parts ∷ more) =
    (found.at ≡ at) × (found.bytes ≡ parts.bytes)
    × IsEntry side found.entry parts × Are side (at + length (text_of_entry parts)) others more

-- the text of a side's log with these entries, 16,777,216 at most
pub record IsLog (side : Side) (text : List ℕ) (found : List Found) : Type 0 where
  pub all : List EntryParts
  pub spelled : text ≡ flat_map text_of_entry all
  pub are : Are side 0 found all
  pub few : length all ≤ 16777216

-- no entry stands first in a text
abbrev pub BeginsNone : Side → List ℕ → Type 0
BeginsNone side text = (entry : Entry) (parts : EntryParts) (more : List ℕ)
    → IsEntry side entry parts → text ≡ text_of_entry parts ++ more → ⊥

-- an entry that is read at a byte, and those after it
abbrev pub found_from : Option Entry → ℕ → List ℕ → List Found → List Found
found_from None at text more = []
found_from (Some entry) at text more =
    record { at = at; entry = entry; bytes = take (entry_size entry) (drop 3 text) } ∷ more

abbrev pub log_fault_from : Option Entry → ℕ → Option LogFault → Option LogFault
log_fault_from None at more = Some (BadRecord at)
log_fault_from (Some entry) at more = more

-- the entries of a text of which this many may still come, from a byte on, up to the first fault
unfoldable pub found_of : Side → ℕ → ℕ → List ℕ → List Found
found_of side zero at text = []
found_of side (suc n) at [] = []
found_of side (suc n) at (b ∷ text) =
    found_from (entry_in side (b ∷ text)) at (b ∷ text)
    (found_of side n (at + reach side (b ∷ text)) (drop (reach side (b ∷ text)) (b ∷ text)))

-- the first fault
unfoldable pub first_log_fault : Side → ℕ → ℕ → List ℕ → Option LogFault
first_log_fault side n at [] = None
first_log_fault side zero at (b ∷ text) = Some (TooMany at)
first_log_fault side (suc n) at (b ∷ text) =
    log_fault_from (entry_in side (b ∷ text)) at
    (first_log_fault side n (at + reach side (b ∷ text)) (drop (reach side (b ∷ text)) (b ∷ text)))

-- the entries of a log, and its first fault
unfoldable pub log_entries : Side → List ℕ → List Found
log_entries side text = found_of side 16777216 0 text

unfoldable pub log_fault : Side → List ℕ → Option LogFault
log_fault side text = first_log_fault side 16777216 0 text
