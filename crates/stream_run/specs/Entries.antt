-- What comes of one stream. Lists have the newest first.
use Rattle.std.specs.Prelude.{ℕ, ◌+◌, List, [], ◌∷◌, nat_lt, Option, Some, None, if◌then◌else◌}
use Rattle.stream_numbers.specs.declared.packet.Packet.{Packet}
use Rattle.stream_numbers.specs.declared.packet.Place.{Place}
use Rattle.stream_numbers.specs.declared.rate.Rate.{Rate}
use Rattle.stream_numbers.specs.Streams.{HeardPacket, place_of}
use Rattle.timed_receiver.specs.Timed as timed

-- a packet came then, by what it says of itself and by its bytes; or the next picture was played
pub data StreamEntry : Type 0 where
  Came : (packet : Packet) (bytes : List ℕ) (now : ℕ) → StreamEntry
  Shown : (now : ℕ) → StreamEntry

-- the packets, as they count on the stream's numbers
abbrev pub heard_of : List StreamEntry → List HeardPacket
heard_of [] = []
heard_of (Came packet bytes now ∷ past) = (packet, now) ∷ heard_of past
heard_of (Shown now ∷ past) = heard_of past

-- Of a packet that has a place its picture's number and time are known. It is heard, unless its
-- picture is more than the lead after the next one.
abbrev pub with_place : ℕ → ℕ → Option Place → List ℕ → ℕ → List timed.Entry → List timed.Entry
with_place first lead None bytes now past = past
with_place first lead (Some place) bytes now past =
    if nat_lt (timed.next_number_after first past + lead) place.number
    then past
    else timed.Came bytes (record { picture = place.number; captured = place.captured; at = now }) ∷ past

-- what the timed receiver meets, from the first picture's number on
abbrev pub timed_of : Rate → ℕ → ℕ → List StreamEntry → List timed.Entry
timed_of rate first lead [] = []
timed_of rate first lead (Came packet bytes now ∷ past) =
    with_place first lead (place_of rate (heard_of past) packet now) bytes now (timed_of rate first lead past)
timed_of rate first lead (Shown now ∷ past) = timed.Shown now ∷ timed_of rate first lead past
