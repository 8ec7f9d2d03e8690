-- What a joiner is: the packets that it holds, and what is left to be given.
use Rattle.std.specs.Prelude.{ℕ, Bool, true, false, List, [], ◌∷◌, Option}
use Rattle.payload_join.specs.Packet.{Packet}
use Rattle.payload_join.specs.Run.{joined_by}
use Rattle.payload_join.specs.Places.{Shows}

-- the last 16 bits of the greatest number so far, the packets by their places, the outgoing packets
-- that are left to be given, and the one that was given last
pub record Joining : Type 0 where
  pub top : Option ℕ
  pub packets : List (Option Packet)
  pub left : List (List ℕ)
  pub given : List ℕ

-- a joiner stands for the packets that it took, the newest first, whatever is left to be given
abbrev pub JoinerStands : Joining → List (List ℕ) → Type 0
JoinerStands j past = Shows j.top j.packets (joined_by past)

-- the first outgoing packet that is left is given, and nothing else changes
abbrev pub after_left : Joining → List (List ℕ) → Joining
after_left j [] = j
after_left j (packet ∷ left) = record j { left = left; given = packet }

abbrev pub after_next : Joining → Joining
after_next j = after_left j j.left

-- whether one is left
abbrev pub is_left : List (List ℕ) → Bool
is_left [] = false
is_left (packet ∷ left) = true
