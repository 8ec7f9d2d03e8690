-- What holds of the numbers, whatever comes.
use Rattle.std.specs.Prelude.{◌≡◌, ℕ, ◌+◌, ◌-◌, ◌*◌, ◌/◌, ◌%◌, ◌<◌, ◌≤◌, ◌⊎◌, List, [], ◌∷◌, Option, Some, None}
use Rattle.std.specs.Option.{option_map}
use Rattle.stream_numbers.specs.declared.newest.Newest.{Newest}
use Rattle.stream_numbers.specs.declared.packet.Packet.{Packet}
use Rattle.stream_numbers.specs.declared.rate.Rate.{Rate}
use Rattle.stream_numbers.specs.declared.stepping.Step.{Step}
use Rattle.stream_numbers.specs.Counting.{allowed_in, nearest_to_base, time_of}
use Rattle.stream_numbers.specs.Placing.{IsRate, guess_of, stream_place, step_of}
use Rattle.stream_numbers.specs.Streams.{HeardPacket}

-- what has a period: temporal references in both picture clocks, and timestamps
abbrev pub IsPeriod : ℕ → Type 0
IsPeriod period = (period ≡ 256) ⊎ ((period ≡ 1024) ⊎ (period ≡ 4294967296))

-- A number is found by its rest where it is less than half a period away.
abbrev pub NearestIsFound : Type 0
NearestIsFound =
    (base n period : ℕ) → IsPeriod period → base ≤ n + period / 2 → n < base + period / 2
    → nearest_to_base base (n % period) period ≡ Some n

-- A packet says this picture and this time, each but for periods.
pub record Says (r : Rate) (p : Packet) (number stamp : ℕ) : Type 0 where
  pub reference : p.reference ≡ number % r.period
  pub timestamp : p.timestamp ≡ stamp % 4294967296
  pub few : number < 1048576
  pub small : stamp < 70368744177664

-- they are near the newest picture's: less than half a period from where they are looked for
pub record IsNearNewest (r : Rate) (x : Newest) (p : Packet) (number stamp : ℕ) : Type 0 where
  pub stamp_low : x.stamp ≤ stamp + 2147483648
  pub stamp_high : stamp < x.stamp + 2147483648
  pub number_low : guess_of r x p stamp ≤ number + r.period / 2
  pub number_high : number < guess_of r x p stamp + r.period / 2

-- the clock allows a picture of this number
abbrev pub IsAllowedByClock : Rate → Newest → ℕ → ℕ → Type 0
IsAllowedByClock r x number now =
    time_of r.rate r.second (number - x.number) ≤ x.credit + allowed_in (now - x.at)

-- A packet gets the number and the time that it means.
abbrev pub PacketIsPlaced : Type 0
PacketIsPlaced =
    (r : Rate) (x : Newest) (p : Packet) (number stamp now : ℕ) → (r.period ≡ 256) ⊎ (r.period ≡ 1024)
    → Says r p number stamp → IsNearNewest r x p number stamp → IsAllowedByClock r x number now
    → option_map (λ s. s.place) (step_of r (Some x) p now) ≡ Some (stream_place number stamp)

-- the newest picture after these packets, the oldest first
abbrev pub newest_of : Option Step → Newest → Newest
newest_of None x = x
newest_of (Some step) x = step.newest

abbrev pub newest_after_all : Rate → Newest → List HeardPacket → Newest
newest_after_all r x [] = x
newest_after_all r x (h ∷ hs) = newest_after_all r (newest_of (step_of r (Some x) h.0 h.1) x) hs

-- none comes earlier than the one before
abbrev pub HeardInOrder : ℕ → List HeardPacket → Type 0
HeardInOrder last [] = Unit {0}
HeardInOrder last (h ∷ hs) = (last ≤ h.1) × HeardInOrder h.1 hs

-- Whatever comes, a stream isn't further ahead of the clock than by its credit: in each time that
-- goes by its numbers go on by no more pictures than are captured in that time, a tenth more, and
-- the credit.
abbrev pub NumbersNeverAhead : Type 0
NumbersNeverAhead =
    (r : Rate) (x : Newest) (hs : List HeardPacket) → IsRate r → HeardInOrder x.at hs
    → let y = newest_after_all r x hs in
    (y.number - x.number) * (r.second * 10000000000) ≤ r.rate * (10 * x.credit + 11 * (y.at - x.at))
