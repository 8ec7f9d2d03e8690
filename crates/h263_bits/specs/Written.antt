-- What a writer has written: the first bits of the buffer that it was lent.
use Rattle.std.specs.Prelude.{◌≡◌, ℕ, ◌-◌, ◌*◌, ◌%◌, List, ◌++◌, length, take, Bool}
use Rattle.std.specs.Borrow.{GName}
use Rattle.h263_bits.specs.declared.writer.BitWriter.{BitWriter}
use Rattle.h263_bits.specs.Bits.{bits_of}

-- how many bits are written
abbrev pub len_of : BitWriter → ℕ
len_of w = w.len

-- how many bits the buffer holds in all
abbrev pub room_of : BitWriter → ℕ
room_of w = 8 * length w.bytes.now

-- the bits that are written
abbrev pub written : BitWriter → List Bool
written w = take w.len (bits_of w.bytes.now)

-- the buffer, by the name of its loan: what is written lies in the bytes that the caller lent
abbrev pub buffer_of : BitWriter → GName
buffer_of w = w.bytes.ghost_name

-- the number of bits from a place up to the next byte
abbrev pub to_byte : ℕ → ℕ
to_byte place = (8 - place % 8) % 8

-- bits were appended, in the same buffer
pub record Appends (old new : BitWriter) (bits : List Bool) : Type 0 where
  pub buffer : buffer_of new ≡ buffer_of old
  pub room : room_of new ≡ room_of old
  pub text : written new ≡ written old ++ bits

-- the bits after the first `len` were dropped, in the same buffer
pub record Cuts (old new : BitWriter) (len : ℕ) : Type 0 where
  pub buffer : buffer_of new ≡ buffer_of old
  pub room : room_of new ≡ room_of old
  pub text : written new ≡ take len (written old)
