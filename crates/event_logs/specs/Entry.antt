-- The entries of a log: a letter, the number of bytes in 16 bits with the high byte first, and the bytes.
use Rattle.std.specs.Prelude.{ℕ, ◌+◌, ◌==◌, nat_lt, Bool, List, [], ◌∷◌, length, drop, slice_index, Option, Some, None, if◌then◌else◌}
use Rattle.std.specs.List.{list_any}
use Rattle.byteorder.specs.Endian.{big_number}
use Rattle.event_logs.specs.declared.entry.Side.{Side}
use Rattle.event_logs.specs.declared.entry.Side.TheVariants.{Send, Recv, Audit}
use Rattle.event_logs.specs.declared.entry.Entry.{Entry}
use Rattle.event_logs.specs.declared.entry.Entry.TheVariants.{Capture, Back, Packet, Play}

-- the letters of the entries that the log of a side has: S and B, K and P, K and B
abbrev pub letters_of : Side → List ℕ
letters_of Send = 83 ∷ 66 ∷ []
letters_of Recv = 75 ∷ 80 ∷ []
letters_of Audit = 75 ∷ 66 ∷ []

abbrev pub has_letter : Side → ℕ → Bool
has_letter side letter = list_any (λ l. l == letter) (letters_of side)

-- what an entry says: a capture and a play have no bytes
abbrev pub entry_of : ℕ → ℕ → Option Entry
entry_of letter len =
    if letter == 83 then (if len == 0 then Some Capture else None)
    else if letter == 66 then Some (Back len)
    else if letter == 75 then Some (Packet len)
    else if letter == 80 then (if len == 0 then Some Play else None)
    else None

-- the entry of a side's log with this letter and this many bytes
abbrev pub entry_with : Side → ℕ → ℕ → Option Entry
entry_with side letter len = if has_letter side letter then entry_of letter len else None

-- how many bytes an entry has after its letter and their number
abbrev pub entry_size : Entry → ℕ
entry_size Capture = 0
entry_size (Back len) = len
entry_size (Packet len) = len
entry_size Play = 0

-- the entry that the first three bytes begin: its letter, and the number of its bytes
abbrev pub entry_begun : Side → List ℕ → Option Entry
entry_begun side bytes =
    if nat_lt (length bytes) 3 then None else entry_with side (slice_index bytes 0) (big_number 2 (drop 1 bytes))

-- how far an entry reaches that begins here; three bytes, where none begins
abbrev pub entry_reach : Option Entry → ℕ
entry_reach None = 3
entry_reach (Some entry) = 3 + entry_size entry

abbrev pub reach : Side → List ℕ → ℕ
reach side bytes = entry_reach (entry_begun side bytes)

-- the entry that stands first in these bytes, whole
abbrev pub entry_in : Side → List ℕ → Option Entry
entry_in side bytes = if nat_lt (length bytes) (reach side bytes) then None else entry_begun side bytes
