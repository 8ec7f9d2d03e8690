-- What the code keeps: packets by their places, one for each rest modulo 64 of their numbers, and
-- the room in which an outgoing packet is built.
use Rattle.std.specs.Prelude.{◌≡◌, ℕ, zero, suc, ◌+◌, ◌-◌, ◌%◌, ◌<◌, ◌≤◌, nat_lt, nat_le, min, List, ◌++◌, length, take, drop, slice_index_or, slice_set, Option, Some, None, is_some, if◌then◌else◌}
use Rattle.payload_join.specs.declared.took.Took.{Took}
use Rattle.payload_join.specs.declared.took.Took.TheVariants as tooks
use Rattle.payload_join.specs.Packet.{Packet}
use Rattle.payload_join.specs.Unit.{held_packet}
use Rattle.payload_join.specs.Run.{JoinedSoFar}

-- the last 16 bits of the greatest number so far, the packets by their places, and the room
pub record PacketPlaces : Type 0 where
  pub top : Option ℕ
  pub packets : List (Option Packet)
  pub room : List ℕ

-- the packet of a number, by its place
abbrev pub place_at : List (Option Packet) → ℕ → Option Packet
place_at packets n = slice_index_or packets (n % 64) None

-- the packet of a number, where nothing above the last one is held
abbrev pub window_packet : List (Option Packet) → ℕ → ℕ → Option Packet
window_packet packets last n = if nat_le n last then place_at packets n else None

-- bytes in place of those from a place on
abbrev pub put_at : List ℕ → ℕ → List ℕ → List ℕ
put_at xs at ws = take at xs ++ (ws ++ drop (at + length ws) xs)

-- ---- one more packet

-- how far a sequence number lies above the number 32,768 below the greatest one
abbrev pub reach_above : ℕ → ℕ → ℕ
reach_above top sequence = (sequence + 98304 - top) % 65536

-- what becomes of a packet
abbrev pub packet_judged : Option ℕ → List (Option Packet) → ℕ → Took
packet_judged None packets sequence = tooks.Held
packet_judged (Some top) packets sequence =
    if nat_le (reach_above top sequence + 64) 32768 then tooks.Old
    else if nat_lt 32768 (reach_above top sequence) then tooks.Held
    else if is_some (place_at packets sequence) then tooks.Again
    else tooks.Held

-- the places of so many numbers are cleared
unfoldable pub forgotten : {X : Type 0} → List (Option X) → ℕ → ℕ → List (Option X)
forgotten held from zero = held
forgotten held from (suc count) = slice_set (forgotten held from count) ((from + count) % 64) None

-- how many numbers above the greatest one there are up to a packet's, at most as many as places
abbrev pub numbers_passed : ℕ → ℕ → ℕ
numbers_passed top sequence = min (reach_above top sequence - 32768) 64

-- the packets without those that are forgotten when a packet is held
abbrev pub left_at : {X : Type 0} → Option ℕ → List (Option X) → ℕ → List (Option X)
left_at None held sequence = held
left_at (Some top) held sequence = forgotten held (top + 1) (numbers_passed top sequence)

abbrev pub top_after : Option ℕ → ℕ → ℕ
top_after None sequence = sequence
top_after (Some top) sequence = if nat_lt 32768 (reach_above top sequence) then sequence else top

-- a packet is held
abbrev pub holding_at : Option ℕ → List (Option Packet) → ℕ → Packet → List (Option Packet)
holding_at top packets sequence p =
    slice_set (left_at top packets sequence) (sequence % 64) (Some p)

abbrev pub holding : PacketPlaces → ℕ → Packet → PacketPlaces
holding r sequence p =
    record r {
      top = Some (top_after r.top sequence);
      packets = holding_at r.top r.packets sequence p;
    }

-- ---- what they stand for

abbrev pub top_rest : Option ℕ → Option ℕ
top_rest None = None
top_rest (Some top) = Some (top % 65536)

-- these are the packets that are held, each at its place
pub record Shows (top : Option ℕ) (packets : List (Option Packet)) (s : JoinedSoFar) : Type 0 where
  pub top_is : top ≡ top_rest s.top
  pub packet : (t n : ℕ) → s.top ≡ Some t → n ≤ t → t < n + 64
      → place_at packets n ≡ held_packet s.held n
  pub nothing : s.top ≡ None → (n : ℕ) → place_at packets n ≡ None
