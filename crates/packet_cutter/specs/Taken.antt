-- What the cutter takes, and where it keeps the packets.
use Rattle.std.specs.Prelude.{◌≡◌, ℕ, zero, suc, ◌+◌, ◌*◌, ◌<◌, ◌≤◌, List, [], ◌∷◌, ◌++◌, length, map, slice_index, slice_range}
use Rattle.h263_types.specs.declared.Kind.{Kind}
use Rattle.h263_types.specs.declared.blocks.Mb.{Mb}
use Rattle.h263_types.specs.Blocks.{HasQuant, IsMb, IsOfKind}
use Rattle.h263_types.specs.declared.blocks.MarkedMb.{MarkedMb}
use Rattle.h263_types.specs.Marks.{IsMarked}

-- a macroblock of a picture of this kind and with this quantiser, with its marks
pub record IsTaken (kind : Kind) (quant : ℕ) (m : MarkedMb) : Type 0 where
  pub in_range : IsMb m.mb
  pub of_kind : IsOfKind kind m.mb
  pub steady : HasQuant quant m.mb
  pub marked : IsMarked m

-- macroblocks without their marks
abbrev pub unmarked : List MarkedMb → List Mb
unmarked mbs = map (λ (m : MarkedMb). m.mb) mbs

-- packet i, where each begins at its place and ends at the next one
abbrev pub packet_between : List ℕ → List ℕ → ℕ → List ℕ
packet_between bytes places i = slice_range bytes (slice_index places i) (slice_index places (i + 1))

-- the first packets, this many
unfoldable pub first_packets : List ℕ → List ℕ → ℕ → List (List ℕ)
first_packets bytes places zero = []
first_packets bytes places (suc n) = first_packets bytes places n ++ packet_between bytes places n ∷ []

-- the places stand in order, and this many packets end within as many times the limit
pub record ArePlaced (limit : ℕ) (places : List ℕ) (count : ℕ) : Type 0 where
  pub whole : length places ≡ 397
  pub order : (i : ℕ) → i < count → slice_index places i ≤ slice_index places (i + 1)
  pub within : (i : ℕ) → i < count → slice_index places (i + 1) ≤ slice_index places count
  pub end : slice_index places count ≤ limit * count
