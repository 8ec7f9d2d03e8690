-- The packets of one picture, one after the other, and where each ends.
use Rattle.std.specs.Prelude.{◌≡◌, ℕ, ◌+◌, ◌^◌, ◌<◌, ◌≤◌, List, length, take, slice_index}
use Rattle.std.specs.List.{concat}
use Rattle.std.specs.Vec.{vec_capacity}
use Rattle.call_rings.specs.Parts.{total_size}
use Rattle.call_rings.specs.declared.kept.KeptPackets.{KeptPackets}

-- how many packets are kept, and how many bytes they have together
abbrev pub count_in : KeptPackets → ℕ
count_in kept = length kept.ends.items

abbrev pub size_in : KeptPackets → ℕ
size_in kept = length kept.bytes.items

-- these packets are kept
pub record KeepsPackets (kept : KeptPackets) (packets : List (List ℕ)) : Type 0 where
  pub bytes : kept.bytes.items ≡ concat packets
  pub count : count_in kept ≡ length packets
  pub ends : (i : ℕ) → i < length packets → slice_index kept.ends.items i ≡ total_size (take (i + 1) packets)

-- memory is taken for this many bytes and packets, and what is kept is no more
pub record TakesUpTo (room most : ℕ) (kept : KeptPackets) : Type 0 where
  pub bytes : room ≤ vec_capacity kept.bytes
  pub ends : most ≤ vec_capacity kept.ends
  pub small : size_in kept ≤ room
  pub few : count_in kept ≤ most

-- there is place for one more packet, of this many bytes
pub record HasPlace (kept : KeptPackets) (size : ℕ) : Type 0 where
  pub bytes : size_in kept + size ≤ vec_capacity kept.bytes
  pub ends : count_in kept < vec_capacity kept.ends
  pub short : size_in kept + size < 2 ^ 32
