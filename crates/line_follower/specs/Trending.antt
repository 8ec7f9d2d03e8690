-- Whether the round trip rises: what waits on the line then is more with each picture. Times on the
-- way are microseconds, those of the clock nanoseconds.
use Rattle.std.specs.Prelude.{ℕ, ◌+◌, ◌-◌, ◌*◌, ◌/◌, ◌==◌, min, max, nat_le, nat_lt, Bool, false, if◌then◌else◌}
use Rattle.line_follower.specs.declared.four.Four.{Four}
use Rattle.line_follower.specs.declared.trips.Trips.{Trips}
use Rattle.line_follower.specs.declared.trips.Thirds.{Thirds}
use Rattle.line_follower.specs.declared.threshold.Threshold.{Threshold}
use Rattle.line_follower.specs.declared.trend.Trend.{Trend}
use Rattle.line_follower.specs.declared.trend.Slope.{Slope}
use Rattle.line_follower.specs.declared.trend.Slope.TheVariants as slopes
use Rattle.line_follower.specs.Numbers.{is_above, middle_two, four_moved, four_zeros}

-- ---- the latest twelve

abbrev pub no_trips : Trips
no_trips =
    record {
      count = 0;
      newest = four_zeros;
      middle = four_zeros;
      oldest = four_zeros;
      newest_bytes = four_zeros;
      middle_bytes = four_zeros;
      oldest_bytes = four_zeros;
    }

abbrev pub trips_with : ℕ → ℕ → Trips → Trips
trips_with trip bytes t =
    record {
      count = if nat_lt t.count 12 then t.count + 1 else 12;
      newest = four_moved trip t.newest;
      middle = four_moved t.newest.fourth t.middle;
      oldest = four_moved t.middle.fourth t.oldest;
      newest_bytes = four_moved bytes t.newest_bytes;
      middle_bytes = four_moved t.newest_bytes.fourth t.middle_bytes;
      oldest_bytes = four_moved t.middle_bytes.fourth t.oldest_bytes;
    }

abbrev pub are_trips_full : Trips → Bool
are_trips_full t = t.count == 12

-- A larger picture takes longer: what its own bytes take at this rate, up to a second, is taken off.
-- A second is added, so that none is negative; and each is below 2^32.
abbrev pub eased : ℕ → ℕ → ℕ → ℕ
eased rate bytes trip =
    min (trip + 1000000 - min (bytes * 1000000 / max rate 1) 1000000) 4294967295

abbrev pub eased_four : ℕ → Four → Four → Four
eased_four rate bytes trips =
    record {
      first = eased rate bytes.first trips.first;
      second = eased rate bytes.second trips.second;
      third = eased rate bytes.third trips.third;
      fourth = eased rate bytes.fourth trips.fourth;
    }

-- the newest third and the oldest, at this rate
abbrev pub thirds_at : ℕ → Trips → Thirds
thirds_at rate t =
    record {
      newest = eased_four rate t.newest_bytes t.newest;
      oldest = eased_four rate t.oldest_bytes t.oldest;
    }

-- By how much the median of the newest third is above that of the oldest: one late message doesn't
-- change either much.
abbrev pub rise_of : Thirds → ℕ
rise_of t = (middle_two t.newest - middle_two t.oldest) / 2

-- by how much it is below
abbrev pub fall_of : Thirds → ℕ
fall_of t = (middle_two t.oldest - middle_two t.newest) / 2

-- The newest third is above the oldest, the newest one isn't shorter than the one three before it
-- (else a large picture went out, and what it left drains), and the median is longer by more than the
-- threshold.
abbrev pub is_up : ℕ → Thirds → Bool
is_up threshold t =
    if is_above t.newest t.oldest
    then
    if nat_le t.newest.fourth t.newest.first then nat_lt threshold (rise_of t) else false
    else false

-- likewise, with shorter for longer
abbrev pub is_down : ℕ → Thirds → Bool
is_down threshold t =
    if is_above t.oldest t.newest
    then
    if nat_le t.newest.first t.newest.fourth then nat_lt threshold (fall_of t) else false
    else false

-- ---- the threshold

abbrev pub first_threshold : ℕ → Threshold
first_threshold now = record { micros = 7000; judged = now }

-- microseconds since then, up to a tenth of a second
abbrev pub step_to : ℕ → ℕ → ℕ
step_to now judged = min (now - judged) 100000000 / 1000

-- Up by ten times what is above it, a second. What is further above it than 8 ms is a queue.
abbrev pub raised : ℕ → ℕ → ℕ → ℕ
raised micros above step =
    if nat_le above 8000 then micros + step * 10 * above / 1000000 else micros

-- down by 18 hundredths of what is below it, a second
abbrev pub lowered : ℕ → ℕ → ℕ → ℕ
lowered micros below step = micros - step * 18 * below / 100000000

abbrev pub within : ℕ → ℕ
within micros = min (max micros 3500) 440000

-- It follows the changes that jitter makes, quickly up and slowly down.
abbrev pub threshold_after : ℕ → ℕ → Threshold → Threshold
threshold_after change now t =
    let step = step_to now t.judged in
    record {
      micros = within
          (if nat_lt t.micros change
          then raised t.micros (change - t.micros) step
          else lowered t.micros (t.micros - change) step);
      judged = now;
    }

-- ---- both

abbrev pub first_trend : ℕ → Trend
first_trend now = record { trips = no_trips; threshold = first_threshold now; is_rising = false }

abbrev pub cleared_trend : Trend → Trend
cleared_trend t = record { trips = no_trips; threshold = t.threshold; is_rising = false }

abbrev pub change_of : Thirds → ℕ
change_of t = max (rise_of t) (fall_of t)

abbrev pub judged_trend : Thirds → Trips → ℕ → Trend → Trend
judged_trend thirds trips now t =
    if are_trips_full trips
    then record {
      trips = trips;
      threshold = threshold_after (change_of thirds) now t.threshold;
      is_rising = is_up t.threshold.micros thirds;
    }
    else record { trips = trips; threshold = t.threshold; is_rising = t.is_rising }

-- the newest third and the oldest with one more picture
abbrev pub thirds_with : ℕ → ℕ → ℕ → Trend → Thirds
thirds_with rate trip bytes t = thirds_at rate (trips_with trip bytes t.trips)

abbrev pub trend_after : ℕ → ℕ → ℕ → ℕ → Trend → Trend
trend_after rate trip bytes now t =
    judged_trend (thirds_with rate trip bytes t) (trips_with trip bytes t.trips) now t

-- A rise counts where it was there with the picture before, too: one late message makes none.
abbrev pub slope_by : Bool → Thirds → Trend → Slope
slope_by is_judged thirds t =
    if is_judged
    then
    if is_down t.threshold.micros thirds then slopes.Falling
    else if is_up t.threshold.micros thirds
    then if t.is_rising then slopes.Rising else slopes.Level
    else slopes.Level
    else slopes.Level

abbrev pub slope_of : ℕ → ℕ → ℕ → Trend → Slope
slope_of rate trip bytes t =
    slope_by (are_trips_full (trips_with trip bytes t.trips)) (thirds_with rate trip bytes t) t
