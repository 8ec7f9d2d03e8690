-- The packets of one picture, as they are kept.
use Rattle.std.specs.Box.{boxed_slice_items}
use Rattle.std.specs.Prelude.{◌≡◌, ℕ, ◌≤◌, ◌==◌, List, [], ◌∷◌, ◌++◌, length, take, drop}
use Rattle.h263_types.specs.declared.blocks.Mb.{Mb}
use Rattle.picture_header.specs.declared.header.Header.{Header}
use Rattle.packet_cutter.specs.declared.packets.Packets.{Packets}
use Rattle.packet_cutter.specs.Cut.{IsLongest}
use Rattle.packet_cutter.specs.Packets.{packet_of}
use Rattle.packet_cutter.specs.Taken.{first_packets}

-- the most bytes of a packet
abbrev pub most_bytes : Packets → ℕ
most_bytes p = p.limit

-- the bytes that were taken for packets
abbrev pub room_for_packets : Packets → ℕ
room_for_packets p = length (boxed_slice_items p.bytes)

abbrev pub packet_count : Packets → ℕ
packet_count p = p.count

abbrev pub kept_packets : Packets → List (List ℕ)
kept_packets p = first_packets (boxed_slice_items p.bytes) p.places p.count

-- the packet of the first `count` of the macroblocks that are left, in the longest slice, was put after the others
pub record AppendsPacket (old new : Packets)
    (number sequence : ℕ) (h : Header) (first : ℕ) (mbs : List Mb) (count : ℕ) : Type 0 where
  pub packet : List ℕ
  pub packets : kept_packets new ≡ kept_packets old ++ packet ∷ []
  pub few : count ≤ length mbs
  pub longest : IsLongest h (most_bytes old) first (take count mbs) (drop count mbs)
  pub packet_is : packet ≡ packet_of number sequence (count == length mbs) h first (take count mbs)
