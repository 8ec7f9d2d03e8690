-- What is written of a payload header.
use Rattle.std.specs.Prelude.{ℕ, ◌+◌, ◌*◌, ◌/◌, List, [], ◌∷◌, ◌++◌, Bool, Option, Some, None}
use Rattle.h263_bits.specs.Bits.{spelled, fields}
use Rattle.h263_bits.specs.Written.{to_byte}
use Rattle.picture_header.specs.declared.header.Header.{Header}
use Rattle.picture_header.specs.Written.{written_header, written_bits}

-- RR, P, V, PLEN, PEBIT (RFC 4629, 5.1)
abbrev pub payload_opening_fields : ℕ → ℕ → List (ℕ × ℕ)
payload_opening_fields plen pebit = (5, 0) ∷ (1, 1) ∷ (1, 0) ∷ (6, plen) ∷ (3, pebit) ∷ []

-- the zero bits after a header, up to a whole byte
abbrev pub padding_of : Header → ℕ
padding_of h = to_byte (written_bits h)

-- the bytes of a header with its padding
abbrev pub header_size : Header → ℕ
header_size h = (written_bits h + padding_of h) / 8

-- the text that is written in front of a picture, and with the header in front of a later slice
abbrev pub written_payload : Option Header → List Bool
written_payload None = fields (payload_opening_fields 0 0)
written_payload (Some h) = fields (payload_opening_fields (header_size h) (padding_of h))
    ++ (written_header h ++ spelled (padding_of h) 0)

-- how many bits that are
abbrev pub payload_bits : Option Header → ℕ
payload_bits None = 16
payload_bits (Some h) = 16 + 8 * header_size h
