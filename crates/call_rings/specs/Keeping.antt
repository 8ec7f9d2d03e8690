-- What a ring keeps: the packets of the last pictures.
use Rattle.std.specs.Prelude.{◌≡◌, ℕ, ◌+◌, ◌-◌, ◌<◌, ◌≤◌, Bool, ◌&&◌, nat_lt, nat_le, List, [], length, slice_get, slice_index_or, if◌then◌else◌, IfSome, Option, None, All}
use Rattle.circular_buffer.specs.Buffer.{last_item}
use Rattle.call_rings.specs.declared.sent_packets.SentPackets.{SentPackets}
use Rattle.call_rings.specs.declared.kept.KeptPackets.{KeptPackets}
use Rattle.call_rings.specs.Kept.{KeepsPackets, TakesUpTo, count_in, size_in}

-- pictures, oldest first, each by its packets
abbrev pub PacketsOfPictures : Type 0
PacketsOfPictures = List (List (List ℕ))

-- how many pictures a ring keeps, and how many were begun so far
abbrev pub ring_period : SentPackets → ℕ
ring_period ring = ring.pictures.capacity

abbrev pub begun_of : SentPackets → ℕ
begun_of ring = ring.begun

-- how many bytes and how many packets there may be of each picture
abbrev pub ring_room : SentPackets → ℕ
ring_room ring = ring.room

abbrev pub most_of : SentPackets → ℕ
most_of ring = ring.most

-- the place of picture n among those that are kept: the newest one has the last place
abbrev pub ring_place : SentPackets → ℕ → ℕ
ring_place ring n = n + ring_period ring - ring.begun

-- these are the pictures so far, and the ring has the packets of the last ones
pub record HoldsPackets (ring : SentPackets) (pictures : PacketsOfPictures) : Type 0 where
  pub begun : ring.begun ≡ length pictures
  pub each : (n : ℕ) → n < length pictures → length pictures ≤ n + ring_period ring
      → IfSome (slice_get ring.pictures.items (ring_place ring n))
      (λ kept. KeepsPackets kept (slice_index_or pictures n []))

-- of this many pictures, number n is among the last ones
abbrev pub is_among_last : ℕ → ℕ → ℕ → Bool
is_among_last period count n = nat_lt n count && nat_le count (n + period)

-- what is kept of picture n where it is among the last ones, and nothing of any other
abbrev pub ring_picture : SentPackets → ℕ → Option KeptPackets
ring_picture ring n =
    if is_among_last (ring_period ring) ring.begun n
    then slice_get ring.pictures.items (ring_place ring n) else None

-- the packets of picture n where it is among the last ones, and none of any other
abbrev pub kept_of : ℕ → PacketsOfPictures → ℕ → List (List ℕ)
kept_of period pictures n =
    if is_among_last period (length pictures) n then slice_index_or pictures n [] else []

-- a picture was begun, and has room for one more packet, of this many bytes
pub record HasRoomForPacket (ring : SentPackets) (size : ℕ) : Type 0 where
  pub begun : 0 < ring.begun
  pub newest : IfSome (last_item ring.pictures.items)
      (λ kept. (count_in kept < ring.most) × (size_in kept + size ≤ ring.room))

-- There is a place for each picture that the ring may keep, with memory for as many bytes and
-- packets as it may have. None has more of either than its memory was taken for.
pub record HasMemory (ring : SentPackets) : Type 0 where
  pub places : length ring.pictures.items ≡ ring_period ring
  pub each : All (TakesUpTo (ring_room ring) (most_of ring)) ring.pictures.items

-- the ring has these sizes
pub record HasSizes (ring : SentPackets) (period room most : ℕ) : Type 0 where
  pub period_is : ring_period ring ≡ period
  pub room_is : ring.room ≡ room
  pub most_is : ring.most ≡ most
