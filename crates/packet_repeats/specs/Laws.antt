-- What holds of the packets that are found, whatever was sent.
use Rattle.std.specs.Prelude.{◌≡◌, ℕ, ◌+◌, ◌%◌, ◌==◌, ◌<◌, ◌≤◌, Bool, true, false, if◌then◌else◌, List, [], ◌∷◌, ◌++◌, length, slice_get, Some}
use Rattle.std.specs.List.{find}
use Rattle.packet_repeats.specs.Sent.{ArePlaces, found_packet, may_stay, sequence_number_of}

-- the packet is kept, and has this number
abbrev pub may_stay_as : ℕ → ℕ → List ℕ → Bool
may_stay_as longest sequence packet =
    if may_stay longest packet then sequence_number_of packet == sequence else false

-- what is found is the newest packet with its number
abbrev pub Newest : Type 0
Newest =
    (places longest sequence : ℕ) (sent : List (List ℕ)) (packet : List ℕ)
    → found_packet places longest sequence sent ≡ Some packet
    → find (may_stay_as longest sequence) sent ≡ Some packet

-- this packet was sent, byte for byte, with this number
pub record WasSent (longest sequence : ℕ) (sent : List (List ℕ)) (packet : List ℕ) : Type 0 where
  pub place : ℕ
  pub among : slice_get sent place ≡ Some packet
  pub numbered : sequence_number_of packet ≡ sequence
  pub short : length packet ≤ longest

abbrev pub FindsSent : Type 0
FindsSent =
    (places longest sequence : ℕ) (sent : List (List ℕ)) (packet : List ℕ)
    → found_packet places longest sequence sent ≡ Some packet → WasSent longest sequence sent packet

-- these packets, the newest first, have the numbers after this one, one after the other; the one
-- after 65,535 is 0 (RFC 3550, 5.1)
abbrev pub AreNext : ℕ → List (List ℕ) → Type 0
AreNext sequence [] = Unit {0}
AreNext sequence (packet ∷ before) =
    (sequence_number_of packet ≡ (sequence + length before + 1) % 65536) × AreNext sequence before

-- a packet is found while fewer than `count` with the numbers after its own were sent
abbrev pub StillKept : Type 0
StillKept =
    (count places longest : ℕ) (newer older : List (List ℕ)) (packet : List ℕ)
    → ArePlaces count places → count ≤ 65536 → may_stay longest packet ≡ true
    → AreNext (sequence_number_of packet) newer → length newer < count
    → found_packet places longest (sequence_number_of packet) (newer ++ packet ∷ older) ≡ Some packet

-- there are no more places than numbers
abbrev pub Bounded : Type 0
Bounded = (count places : ℕ) → ArePlaces count places → count ≤ 65536 → places ≤ 65536
