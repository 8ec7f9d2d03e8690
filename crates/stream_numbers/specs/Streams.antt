-- The numbers of a whole stream.
use Rattle.std.specs.Prelude.{ℕ, ◌<◌, List, [], ◌∷◌, Option, Some, None}
use Rattle.std.specs.Option.{option_map}
use Rattle.stream_numbers.specs.declared.newest.Newest.{Newest}
use Rattle.stream_numbers.specs.declared.packet.Packet.{Packet}
use Rattle.stream_numbers.specs.declared.packet.Place.{Place}
use Rattle.stream_numbers.specs.declared.rate.Rate.{Rate}
use Rattle.stream_numbers.specs.declared.stepping.Step.{Step}
use Rattle.stream_numbers.specs.Placing.{step_of}

-- a packet, and when it came
abbrev pub HeardPacket : Type 0
HeardPacket = Packet × ℕ

-- what a packet without a place leaves is what was there
abbrev pub newest_kept : Option Step → Option Newest → Option Newest
newest_kept None before = before
newest_kept (Some step) before = Some step.newest

-- the newest picture after these packets, the newest first
abbrev pub newest_after : Rate → List HeardPacket → Option Newest
newest_after r [] = None
newest_after r (h ∷ past) = newest_kept (step_of r (newest_after r past) h.0 h.1) (newest_after r past)

-- the place of one more
abbrev pub place_of : Rate → List HeardPacket → Packet → ℕ → Option Place
place_of r past p now = option_map (λ s. s.place) (step_of r (newest_after r past) p now)

-- its time is below 2^62
abbrev pub is_time_small : Place → Type 0
is_time_small place = place.captured < 4611686018427387904
