-- The parts of a ring: the slots of a region that have the packets' bytes, and where the parts of
-- each packet lie in them.
use Rattle.std.specs.Prelude.{◌≡◌, ℕ, ◌+◌, ◌<◌, ◌≤◌, List, [], ◌∷◌, length, replicate, slice_index, slice_index_or, Option, Some, None}
use Rattle.std.specs.Vec.{vec_capacity}
use Rattle.std.specs.declared.vec.Vec.{Vec}
use Rattle.std.specs.declared.alloc.Global.{Global}
use Rattle.h263_region.specs.Slots.{Slots, bytes_in, out_of, count_of, IsOut}
use Rattle.payload_join.specs.declared.parts.Parts.{Parts}
use Rattle.payload_join.specs.Packet.{Packet}
use Rattle.payload_join.specs.Parts.{packet_from_parts}
use Rattle.payload_join.specs.Places.{PacketPlaces}
use Rattle.h263_region.specs.Claimed.{IsHeld}

-- the packet in a slot
abbrev pub in_slot : List ℕ → Option Parts → Option Packet
in_slot bytes None = None
in_slot bytes (Some p) = Some (packet_from_parts bytes p)

abbrev pub slot_packets : Slots → List ℕ → List (Option Parts) → List (Option Packet)
slot_packets region slots [] = []
slot_packets region [] (p ∷ parts) = []
slot_packets region (slot ∷ slots) (p ∷ parts) =
    in_slot (bytes_in region slot) p ∷ slot_packets region slots parts

-- the room is the last slot
abbrev pub last_room : Slots → List ℕ → List ℕ
last_room region slots = bytes_in region (slice_index slots 64)

-- what was read of a packet
pub record DescribesPacket (q : Parts) (p : Packet) : Type 0 where
  pub sequence : p.sequence ≡ q.sequence
  pub timestamp : p.timestamp ≡ q.timestamp
  pub plen : length p.extra.bytes ≡ q.plen
  pub pebit : 0 < q.plen → p.extra.pebit ≡ q.pebit
  pub few : q.plen < 64
  pub bits : q.pebit < 8

abbrev pub IsSeenPacket : Option Parts → Option Packet → Type 0
IsSeenPacket None o = o ≡ None
IsSeenPacket (Some q) o = (p : Packet) × (o ≡ Some p) × DescribesPacket q p

abbrev pub extra_one : Option Packet → List ℕ
extra_one None = []
extra_one (Some p) = p.extra.bytes

-- the parts of a packet lie in a slot
pub record IsPlaced (p : Parts) : Type 0 where
  pub few : p.plen < 64
  pub bits : p.pebit < 8
  pub extra : p.coded_from ≡ p.extra_from + p.plen
  pub order : p.coded_from ≤ p.to
  pub end : p.to ≤ 65535

abbrev pub IsPlacedIf : Option Parts → Type 0
IsPlacedIf None = Unit {0}
IsPlacedIf (Some p) = IsPlaced p

-- what a ring keeps of its parts
pub record IsRing (region : Slots) (slots : List ℕ) (parts : List (Option Parts)) : Type 0 where
  pub held : IsHeld region slots
  pub count : length slots ≡ 65
  pub size : region.size ≡ 65535
  pub whole : length region.bytes ≡ count_of region
  pub sized : (k : ℕ) → k < 65 → length (bytes_in region (slice_index slots k)) ≡ 65535
  pub places : length parts ≡ 64
  pub placed : (k : ℕ) → IsPlacedIf (slice_index_or parts k None)

-- a ring that holds nothing yet
pub record IsEmptyRing (r : PacketPlaces) : Type 0 where
  pub top : r.top ≡ None
  pub packets : r.packets ≡ replicate 64 None
