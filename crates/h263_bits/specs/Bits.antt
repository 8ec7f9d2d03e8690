-- Bits, most significant first, and the numbers that they spell.
use Rattle.std.specs.Prelude.{ℕ, zero, suc, ◌+◌, ◌*◌, ◌/◌, ◌%◌, ◌^◌, Bool, cond, ◌==◌, List, [], ◌∷◌, ◌++◌, length}

-- whether bit k of a number is set; bit 0 is the lowest
abbrev pub is_set : ℕ → ℕ → Bool
is_set n k = n / 2 ^ k % 2 == 1

-- a number as this many bits
unfoldable pub spelled : ℕ → ℕ → List Bool
spelled zero n = []
spelled (suc k) n = is_set n k ∷ spelled k n

-- the number that bits spell
unfoldable pub number : List Bool → ℕ
number [] = 0
number (b ∷ bits) = cond b 1 0 * 2 ^ length bits + number bits

-- the bits of bytes
unfoldable pub bits_of : List ℕ → List Bool
bits_of [] = []
bits_of (byte ∷ bytes) = spelled 8 byte ++ bits_of bytes

-- fields one after the other, each a number of bits and the value that they spell
abbrev pub fields : List (ℕ × ℕ) → List Bool
fields [] = []
fields (f ∷ fs) = spelled f.0 f.1 ++ fields fs
