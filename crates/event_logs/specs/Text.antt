-- Entries as they are written.
use Rattle.std.specs.Prelude.{ℕ, List, ◌∷◌, ◌++◌, length}
use Rattle.byteorder.specs.Endian.{big_bytes}

-- a letter, and a number of bytes in 16 bits with the high byte first
abbrev pub entry_head_text : ℕ → ℕ → List ℕ
entry_head_text letter len = letter ∷ big_bytes 2 len

-- an entry with its bytes
abbrev pub entry_text : ℕ → List ℕ → List ℕ
entry_text letter bytes = entry_head_text letter (length bytes) ++ bytes
