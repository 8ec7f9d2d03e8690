-- Which picture a packet is of.
use Rattle.std.specs.Prelude.{ℕ, ◌+◌, ◌-◌, ◌*◌, ◌/◌, ◌%◌, ◌<◌, ◌≤◌, min, nat_lt, nat_le, Option, Some, None, if◌then◌else◌}
use Rattle.stream_numbers.specs.declared.newest.Newest.{Newest}
use Rattle.stream_numbers.specs.declared.packet.Packet.{Packet}
use Rattle.stream_numbers.specs.declared.packet.Place.{Place}
use Rattle.stream_numbers.specs.declared.rate.Rate.{Rate}
use Rattle.stream_numbers.specs.declared.stepping.Step.{Step}
use Rattle.stream_numbers.specs.Counting.{ahead_of, allowed_in, nearest_to_base, pictures_within, time_of}

-- A picture's place in the stream: its number, and its time in nanoseconds. A tick of 90 kHz is
-- 100,000 ninths of one.
abbrev pub stream_place : ℕ → ℕ → Place
stream_place number stamp = record { number = number; captured = stamp * 100000 / 9 }

-- The first packet's temporal reference is its number. The stream may run ahead by two seconds.
abbrev pub newest_at_first : Packet → ℕ → Newest
newest_at_first p now =
    record {
      number = p.reference;
      stamp = 4294967296 + p.timestamp;
      sequence = p.sequence;
      at = now;
      credit = 2000000000;
    }

-- The number from which the temporal reference counts: that of the newest picture, and as many more
-- as the packet's time is later, but no more than packets were sent since. A camera that pauses
-- sends none.
abbrev pub guess_of : Rate → Newest → Packet → ℕ → ℕ
guess_of r x p stamp =
    x.number + min (pictures_within r.rate r.second (stamp - x.stamp)) (ahead_of x.sequence p.sequence)

-- the greatest sequence number so far
abbrev pub sequence_after : Newest → Packet → ℕ
sequence_after x p = (x.sequence + ahead_of x.sequence p.sequence) % 65536

-- what is left of what the stream may run ahead: two seconds at most
abbrev pub newer : Newest → Packet → ℕ → ℕ → ℕ → ℕ → Newest
newer x p number stamp now left =
    record {
      number = number;
      stamp = stamp;
      sequence = sequence_after x p;
      at = now;
      credit = min left 2000000000;
    }

-- A newer picture has its place where the clock allows it: by the time since the newest one came,
-- and by what the stream may still run ahead.
abbrev pub advanced : Rate → Newest → Packet → ℕ → ℕ → ℕ → Option Newest
advanced r x p number stamp now =
    let cost = time_of r.rate r.second (number - x.number) in
    let most = x.credit + allowed_in (now - x.at) in
    if nat_lt most cost then None else Some (newer x p number stamp now (most - cost))

-- The state after a packet of this picture: of the newest one, of an older one, or of a newer one.
-- There are 2^20 pictures at most.
abbrev pub newest_moved : Rate → Newest → Packet → ℕ → ℕ → ℕ → Option Newest
newest_moved r x p number stamp now =
    if nat_le 1048576 number then None
    else if nat_lt x.number number then advanced r x p number stamp now
    else Some (record x { sequence = sequence_after x p })

abbrev pub with_moved : Option Newest → ℕ → ℕ → Option Step
with_moved None number stamp = None
with_moved (Some x) number stamp = Some (record { newest = x; place = stream_place number stamp })

abbrev pub with_number : Rate → Newest → Packet → Option ℕ → ℕ → ℕ → Option Step
with_number r x p None stamp now = None
with_number r x p (Some number) stamp now = with_moved (newest_moved r x p number stamp now) number stamp

-- the packet's time, counted on, below 2^46 ticks
abbrev pub with_stamp : Rate → Newest → Packet → Option ℕ → ℕ → Option Step
with_stamp r x p None now = None
with_stamp r x p (Some stamp) now =
    if nat_le 70368744177664 stamp then None
    else with_number r x p (nearest_to_base (guess_of r x p stamp) p.reference r.period) stamp now

-- The packet's place, and the state after it. None where it has no place: then nothing changes.
abbrev pub step_of : Rate → Option Newest → Packet → ℕ → Option Step
step_of r None p now =
    Some (record { newest = newest_at_first p now; place = stream_place p.reference (4294967296 + p.timestamp) })
step_of r (Some x) p now = with_stamp r x p (nearest_to_base x.stamp p.timestamp 4294967296) now

-- ---- ranges

pub record IsNewest (x : Newest) : Type 0 where
  pub number : x.number < 1048576
  pub stamp : x.stamp < 70368744177664
  pub credit : x.credit ≤ 2000000000

-- 256 or 1,024 pictures to a period
pub record IsRate (r : Rate) : Type 0 where
  pub period_low : 2 ≤ r.period
  pub period_high : r.period ≤ 1024
  pub rate_low : 1 ≤ r.rate
  pub rate_high : r.rate ≤ 65536
  pub second_low : 1 ≤ r.second
  pub second_high : r.second ≤ 4096
