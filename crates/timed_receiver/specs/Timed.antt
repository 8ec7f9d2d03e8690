-- What is done to a receiver whose pictures are due at their times. Lists have the newest first.
use Rattle.std.specs.Prelude.{◌≡◌, ℕ, ◌+◌, Bool, true, List, [], ◌∷◌, nat_lt, if◌then◌else◌}
use Rattle.call_model.specs.Receiving.{ReceiverEntry, Packet, PlayNext}
use Rattle.receiver_end.specs.State.{plays_alone}
use Rattle.playout_times.specs.declared.arrival.Arrival.{Arrival}
use Rattle.playout_times.specs.Due.{due_of, is_due_by}

-- a packet came, by its bytes, its picture and its times; or the next picture was played, then
pub data Entry : Type 0 where
  Came : (bytes : List ℕ) (arrival : Arrival) → Entry
  Shown : (now : ℕ) → Entry

-- the number of the next picture: the first one's, and one more for each play
abbrev pub next_number_after : ℕ → List Entry → ℕ
next_number_after first [] = first
next_number_after first (Came bytes arrival ∷ past) = next_number_after first past
next_number_after first (Shown now ∷ past) = next_number_after first past + 1

-- the packets, by their pictures and their times
abbrev pub arrivals_of : List Entry → List Arrival
arrivals_of [] = []
arrivals_of (Came bytes arrival ∷ past) = arrival ∷ arrivals_of past
arrivals_of (Shown now ∷ past) = arrivals_of past

-- What the receiver is given: the plays before the first picture, each packet of a picture that
-- wasn't played, and each play.
abbrev pub entries_of : ℕ → List Entry → List ReceiverEntry
entries_of first [] = plays_alone first
entries_of first (Came bytes arrival ∷ past) =
    if nat_lt arrival.picture (next_number_after first past)
    then entries_of first past
    else Packet bytes ∷ entries_of first past
entries_of first (Shown now ∷ past) = PlayNext ∷ entries_of first past

-- the next picture is due by this time
abbrev pub is_due_after : ℕ → ℕ → List Entry → ℕ → Bool
is_due_after wait first past now = is_due_by now (due_of wait (next_number_after first past) (arrivals_of past))

-- each picture was due when it was played
abbrev pub Timely : ℕ → ℕ → List Entry → Type 0
Timely wait first [] = Unit {0}
Timely wait first (Came bytes arrival ∷ past) = Timely wait first past
Timely wait first (Shown now ∷ past) = (is_due_after wait first past now ≡ true) × Timely wait first past
