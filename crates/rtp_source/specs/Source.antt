-- The SSRC of an RTP packet (RFC 3550, 5.1): the bytes 8 to 11, the highest first.
use Rattle.std.specs.Prelude.{ℕ, ◌++◌, List, [], ◌∷◌, length, take, drop, nat_lt, Option, Some, None, if◌then◌else◌}
use Rattle.byteorder.specs.Endian.{big_number}

-- the SSRC, where there is a whole header
abbrev pub source_in : List ℕ → Option ℕ
source_in bytes = if nat_lt (length bytes) 12 then None else Some (big_number 4 (drop 8 bytes))

-- the same packet with the SSRC that ends read, the letters H263
abbrev pub renamed : List ℕ → List ℕ
renamed bytes = take 8 bytes ++ ((72 ∷ 50 ∷ 54 ∷ 51 ∷ []) ++ drop 12 bytes)
