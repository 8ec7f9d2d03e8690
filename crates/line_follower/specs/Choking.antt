-- Whether the line is choked: what waits on it is much more with each picture.
use Rattle.std.specs.Prelude.{ℕ, ◌+◌, ◌-◌, ◌*◌, ◌/◌, min, nat_lt, if◌then◌else◌}
use Rattle.line_follower.specs.declared.lateness.Lateness.{Lateness}

abbrev pub no_lateness : Lateness
no_lateness = record { at = 0; trip = 0; count = 0 }

-- One picture more is late by 50 ms above the least round trip, and by half of the time between the
-- two more than the one before.
abbrev pub late_count : ℕ → ℕ → ℕ → Lateness → ℕ
late_count least at trip l =
    if nat_lt (least + 50000) trip
    then if nat_lt (2 * l.trip + (at - l.at) / 1000) (2 * trip) then min (l.count + 1) 3 else l.count
    else 0

-- With a picture that went out then and was told of so many microseconds later. One that went out
-- before the last one tells nothing.
abbrev pub lateness_with : ℕ → ℕ → ℕ → Lateness → Lateness
lateness_with least at trip l =
    if nat_lt l.at at
    then record { at = at; trip = trip; count = late_count least at trip l }
    else l
