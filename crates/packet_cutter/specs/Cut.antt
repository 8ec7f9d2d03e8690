-- The division of a picture into slices, one a packet: each is the longest whose packet keeps within a limit of bytes.
use Rattle.std.specs.Prelude.{◌≡◌, ℕ, ◌+◌, ◌/◌, ◌<◌, ◌≤◌, ◌==◌, Bool, true, false, List, [], ◌∷◌, ◌++◌, length, Option, Some, None}
use Rattle.h263_types.specs.declared.blocks.Mb.{Mb}
use Rattle.picture_header.specs.declared.header.Header.{Header}
use Rattle.h263_payload.specs.Written.{payload_bits}
use Rattle.slice_layer.specs.Written.{slice_text, bytes_filled_by}

-- a slice with the picture's first macroblock stands after the picture header; any other has it as the extra one
abbrev pub begins_at : ℕ → Bool
begins_at first = first == 0

abbrev pub extra_of : Header → Bool → Option Header
extra_of h true = None
extra_of h false = Some h

-- the bytes in front of the data: RTP's 12, and the payload's header (RFC 4629, 5.1)
abbrev pub front_bytes : Header → ℕ → ℕ
front_bytes h first = 12 + payload_bits (extra_of h (begins_at first)) / 8

-- the bytes of the packet with a slice from macroblock `first` on
abbrev pub packet_bytes : Header → ℕ → List Mb → ℕ
packet_bytes h first mbs = front_bytes h first + bytes_filled_by (slice_text h (begins_at first) first mbs)

-- a slice of the macroblocks from number `first` on is the longest whose packet has at most `limit` bytes
pub record IsLongest (h : Header) (limit first : ℕ) (run rest : List Mb) : Type 0 where
  pub some : 0 < length run
  pub fits : packet_bytes h first run ≤ limit
  pub longest : (more others : List Mb)
      → rest ≡ more ++ others → 0 < length more → limit < packet_bytes h first (run ++ more)

-- the slices, one after the other, of macroblocks the first of which is number `first`
unfoldable pub IsCut : Header → ℕ → ℕ → List Mb → List (List Mb) → Type 0
IsCut h limit first mbs [] = mbs ≡ []
IsCut h limit first mbs (run ∷ runs) =
    (rest : List Mb) × (mbs ≡ run ++ rest)
    × IsLongest h limit first run rest × IsCut h limit (first + length run) rest runs

-- the macroblocks of slices, one slice after the other
abbrev pub runs_joined : List (List Mb) → List Mb
runs_joined [] = []
runs_joined (run ∷ runs) = run ++ runs_joined runs

-- slices, the first of which begins with macroblock `first`: none is empty, and each keeps its packet within the limit
unfoldable pub Fit : Header → ℕ → ℕ → List (List Mb) → Type 0
Fit h limit first [] = Unit {0}
Fit h limit first (run ∷ runs) =
    (0 < length run) × (packet_bytes h first run ≤ limit) × Fit h limit (first + length run) runs
