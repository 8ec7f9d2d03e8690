-- Bits as bytes.
use Rattle.std.specs.Prelude.{ℕ, zero, suc, Bool, List, [], ◌∷◌, take, drop}
use Rattle.h263_bits.specs.Bits.{number}

-- the first `count` bytes that bits fill
unfoldable pub bytes_filled : ℕ → List Bool → List ℕ
bytes_filled zero bits = []
bytes_filled (suc count) bits = number (take 8 bits) ∷ bytes_filled count (drop 8 bits)
