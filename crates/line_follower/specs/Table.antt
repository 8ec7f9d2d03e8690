-- What was sent, and what was told of it.
use Rattle.std.specs.Prelude.{ℕ, ◌-◌, ◌*◌, ◌/◌, ◌%◌, ◌==◌, min, nat_le, Bool, true, false, List, Option, Some, None, slice_get, slice_set, sum_by, if◌then◌else◌}
use Rattle.line_follower.specs.declared.picture.Picture.{Picture}
use Rattle.line_follower.specs.declared.picture.Fate.{Fate}
use Rattle.line_follower.specs.declared.picture.Fate.TheVariants as fates

abbrev pub no_picture : Picture
no_picture = record { number = 0; bytes = 0; packets = 0; at = 0; fate = fates.Lost }

abbrev pub is_untold : Fate → Bool
is_untold fates.Open = true
is_untold fates.Lost = false
is_untold (fates.Whole at) = false

-- it has this number, and nothing was told of it yet
abbrev pub is_untold_number : ℕ → Picture → Bool
is_untold_number number p = if p.number == number then is_untold p.fate else false

abbrev pub fate_of : Bool → ℕ → Fate
fate_of true now = fates.Whole now
fate_of false now = fates.Lost

abbrev pub picture_told : Bool → ℕ → Picture → Picture
picture_told is_whole now p =
    record {
      number = p.number;
      bytes = p.bytes;
      packets = p.packets;
      at = p.at;
      fate = fate_of is_whole now;
    }

-- in microseconds, up to ten seconds
abbrev pub trip_of : ℕ → Picture → ℕ
trip_of now p = min ((now - p.at) / 1000) 10000000

abbrev pub came_by : ℕ → ℕ → Fate → ℕ
came_by now bytes fates.Open = 0
came_by now bytes fates.Lost = 0
came_by now bytes (fates.Whole at) = if nat_le (now - at) 500000000 then bytes else 0

-- its bytes, where it was told in the last half second that they came whole
abbrev pub came_at : ℕ → Picture → ℕ
came_at now p = came_by now p.bytes p.fate

-- below 2^32
abbrev pub doubled : ℕ → ℕ
doubled sum = min (2 * sum) 4294967295

-- Bytes a second that came whole: twice those of the last half second.
abbrev pub rate_through : ℕ → List Picture → ℕ
rate_through now pictures = doubled (sum_by (came_at now) pictures)

-- The picture of this number of which nothing was told yet, if it is among the latest 256.
abbrev pub open_at : ℕ → Option Picture → Option Picture
open_at number None = None
open_at number (Some p) = if is_untold_number number p then Some p else None

abbrev pub open_of : ℕ → List Picture → Option Picture
open_of number pictures = open_at number (slice_get pictures (number % 256))

abbrev pub put : Picture → List Picture → List Picture
put p pictures = slice_set pictures (p.number % 256) p
