-- What the reader of a log says, call by call.
use Rattle.std.specs.Prelude.{ℕ, ◌≡◌, ◌+◌, ◌<◌, ◌≤◌, List, [], length, take, drop, Option, Some, None, Result, Ok, Err}
use Rattle.event_logs.specs.declared.entry.Entry.{Entry}
use Rattle.event_logs.specs.declared.fault.LogStop.{LogStop}
use Rattle.event_logs.specs.declared.fault.LogStop.TheVariants.{Read, BadRecord, TooMany}
use Rattle.event_logs.specs.Entry.{entry_size, reach, entry_in}
use Rattle.event_logs.specs.Place.{LogPlace}

-- how a call moves a reader, by its places before and after, and which byte it gives: where the
-- next entry begins
abbrev pub MovesLog : Result (Option (ℕ × Entry)) LogStop → LogPlace → LogPlace → Type 0
MovesLog (Ok (Some found)) old new = (found.0 ≡ old.at) × (new.side ≡ old.side)
    × (new.entries ≡ old.entries + 1) × (new.at ≡ old.at + (3 + entry_size found.1))
MovesLog (Ok None) old new = new ≡ old
MovesLog (Err Read) old new = new ≡ old
MovesLog (Err (BadRecord at)) old new = (old.entries < 16777216) × (at ≡ old.at) × (new ≡ old)
MovesLog (Err (TooMany at)) old new = (old.entries ≡ 16777216) × (at ≡ old.at) × (new ≡ old)

-- what was taken when a read failed has no whole entry
pub record IsLogCut (place : LogPlace) (rest : List ℕ) (left : Option (List ℕ)) : Type 0 where
  pub taken : ℕ
  pub within : taken ≤ length rest
  pub gone : left ≡ Some (drop taken rest)
  pub none : entry_in place.side (take taken rest) ≡ None

-- what a reader at a place says of the rest of a log, with an entry's bytes in the buffer, and what
-- is left of it then
abbrev pub EntryGives : Result (Option (ℕ × Entry)) LogStop → LogPlace → List ℕ → List ℕ → Option (List ℕ) → Type 0
EntryGives (Ok (Some found)) old rest buf left =
    (entry_in old.side rest ≡ Some found.1)
    × (take (entry_size found.1) buf ≡ take (entry_size found.1) (drop 3 rest))
    × (left ≡ Some (drop (3 + entry_size found.1) rest))
EntryGives (Ok None) old rest buf left = (rest ≡ []) × (left ≡ Some [])
EntryGives (Err Read) old rest buf left = IsLogCut old rest left
EntryGives (Err (BadRecord at)) old rest buf left = (0 < length rest)
    × (entry_in old.side rest ≡ None) × (left ≡ Some (drop (reach old.side rest) rest))
EntryGives (Err (TooMany at)) old rest buf left = (0 < length rest) × (left ≡ Some (drop 3 rest))
