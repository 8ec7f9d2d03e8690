-- The rate of a line: Google's congestion control (draft-ietf-rmcat-gcc-02) for a sender whose
-- messages name pictures. Rates are bytes a second, round trips microseconds, times nanoseconds.
use Rattle.std.specs.Prelude.{ℕ, ◌+◌, ◌-◌, ◌*◌, ◌/◌, min, max, nat_le, nat_lt, not, Bool, true, false, Option, Some, None, if◌then◌else◌}
use Rattle.line_follower.specs.declared.drain.Drain.{Drain}
use Rattle.line_follower.specs.declared.line.Line.{Line}
use Rattle.line_follower.specs.declared.line.Action.{Action}
use Rattle.line_follower.specs.declared.line.Action.TheVariants as actions
use Rattle.line_follower.specs.declared.picture.Picture.{Picture}
use Rattle.line_follower.specs.declared.trend.Slope.{Slope}
use Rattle.line_follower.specs.declared.trend.Slope.TheVariants as slopes
use Rattle.line_follower.specs.Choking.{lateness_with, no_lateness}
use Rattle.line_follower.specs.Losing.{carried_by, cleared_losses, losses_counted, first_losses, is_judged, latest_with, losses_after, no_latest}
use Rattle.line_follower.specs.Owing.{capped, drained, first_debt, first_trip, least_trip_of, trips_after, debt_with, with_queue}
use Rattle.line_follower.specs.Table.{trip_of}
use Rattle.line_follower.specs.Trending.{cleared_trend, first_trend, slope_of, trend_after}

abbrev pub line_at_first : ℕ → ℕ → ℕ → ℕ → Line
line_at_first rate least most now =
    record {
      rate = rate;
      least = least;
      most = most;
      full = None;
      grown = now;
      paused = 0;
      since = 0;
      next = 0;
      out = 0;
      untold = 0;
      trip = 0;
      drains = None;
      debt = first_debt now;
      trend = first_trend now;
      losses = first_losses now;
      latest = no_latest;
      least_trip = first_trip now;
      late = no_lateness;
    }

abbrev pub sent_line : ℕ → ℕ → ℕ → Line → Line
sent_line number bytes now l =
    record l { next = number + 1; out = now; debt = debt_with bytes (drained l.rate now l.debt) }

-- ---- what is told

-- A line that was full drains until the round trip is down to a fifth of what it was above its
-- least, and 20 ms, but no longer than two seconds.
abbrev pub drain_of : ℕ → ℕ → ℕ → Drain
drain_of least trip now =
    record {
      trip = least + (trip - least) / 5 + 20000;
      until = min (now + 2000000000) 18446744073709551615;
    }

abbrev pub is_drained : Drain → ℕ → ℕ → Bool
is_drained d trip now = if nat_lt trip d.trip then true else nat_lt d.until now

abbrev pub drain_left : Option Drain → ℕ → ℕ → Option Drain
drain_left None trip now = None
drain_left (Some d) trip now = if is_drained d trip now then None else Some d

-- a picture is whole
abbrev pub tripped : Picture → ℕ → Line → Line
tripped p now l =
    let trip = trip_of now p in
    record l {
      trip = trip;
      trend = trend_after l.rate trip p.bytes now l.trend;
      least_trip = trips_after trip now l.least_trip;
      drains = drain_left l.drains trip now;
    }

abbrev pub noted : Picture → Bool → ℕ → Line → Line
noted p is_whole now l =
    record l {
      losses = losses_after p.packets is_whole now l.losses;
      latest = latest_with p.packets is_whole l.latest;
      late = lateness_with (least_trip_of l.least_trip) p.at (trip_of now p) l.late;
    }

abbrev pub line_heard : Picture → Bool → ℕ → Line → Line
line_heard p is_whole now l =
    if is_whole then tripped p now (noted p is_whole now l) else noted p is_whole now l

abbrev pub slope_with : Picture → Bool → ℕ → Line → Slope
slope_with p is_whole now l =
    if is_whole then slope_of l.rate (trip_of now p) p.bytes l.trend else slopes.Level

-- ---- what becomes of the rate

-- It is below what TCP would have with such losses and such a round trip (RFC 5348, 3.1, without
-- time-outs): 1,460 bytes in the time of the round trip, over the root of two thirds of the share of
-- losses. No more than a million bytes count as on their way.
abbrev pub is_fair : Line → Bool
is_fair l =
    let flying = min (l.rate * l.trip / 1000000) 1000000 in
    nat_lt (flying * flying * (2 * l.losses.share)) 63948000000

abbrev pub is_lossy : Line → Bool
is_lossy l = if nat_le l.losses.share 1000 then false else not (is_fair l)

-- nothing waits on it
abbrev pub is_line_empty : Line → Bool
is_line_empty l = nat_lt l.trip (least_trip_of l.least_trip + 20000)

-- A line on which nothing waits isn't full: its losses, up to a tenth, are its own.
abbrev pub is_fine : Line → Bool
is_fine l =
    if nat_le l.losses.share (if is_line_empty l then 1000 else 200) then true else is_fair l

-- a rate that isn't used doesn't grow
abbrev pub may_grow : ℕ → Line → Bool
may_grow through l = if nat_lt (2 * l.rate) (3 * through) then is_fine l else false

abbrev pub calm_action : Slope → ℕ → Line → Action
calm_action slopes.Rising through l = actions.Full
calm_action slopes.Falling through l = actions.Keep
calm_action slopes.Level through l = if may_grow through l then actions.Grow else actions.Keep

-- a line that drains is left alone
abbrev pub draining_action : Option Drain → Slope → ℕ → Line → Action
draining_action None slope through l = calm_action slope through l
draining_action (Some d) slope through l = actions.Keep

abbrev pub losing_action : Slope → Bool → ℕ → Line → Action
losing_action slope is_judged through l =
    if is_judged
    then if is_lossy l then actions.Lossy else draining_action l.drains slope through l
    else draining_action l.drains slope through l

abbrev pub cutting_action : Option ℕ → Slope → Bool → ℕ → Line → Action
cutting_action None slope is_judged through l = losing_action slope is_judged through l
cutting_action (Some eighths) slope is_judged through l = actions.Cut eighths

-- Three pictures in a row came much later than the ones before them, and less than half of the rate
-- comes through.
abbrev pub is_choked : ℕ → Line → Bool
is_choked through l = if nat_le 3 l.late.count then nat_lt (2 * through) l.rate else false

-- The eighths that are left: two where the line is choked and a picture isn't whole.
abbrev pub eighths_left : Bool → ℕ → Line → Option ℕ
eighths_left is_whole through l =
    if is_whole then carried_by l.latest
    else if is_choked through l then Some 2
    else carried_by l.latest

abbrev pub action_of : Bool → Slope → Bool → ℕ → Line → Action
action_of is_whole slope is_judged through l =
    cutting_action (eighths_left is_whole through l) slope is_judged through l

-- Down to this rate, if it is less, but not below the least. Only what follows tells of it.
abbrev pub shrunk_to : ℕ → Line → ℕ
shrunk_to rate l = max (min rate l.rate) l.least

abbrev pub shrunk : ℕ → ℕ → Line → Line
shrunk rate now l =
    record l {
      rate = shrunk_to rate l;
      debt = capped (shrunk_to rate l) (drained l.rate now l.debt);
      since = l.next;
      drains = None;
      trend = cleared_trend l.trend;
      losses = cleared_losses now l.losses;
      latest = no_latest;
      late = record l.late { count = 0 };
    }

-- within a fifth of the rate at which the line was full last
abbrev pub is_near : ℕ → Option ℕ → Bool
is_near rate None = false
is_near rate (Some full) = if nat_lt (4 * full) (5 * rate) then nat_lt (5 * rate) (6 * full) else false

-- the growth a second, in thousandths: slow near that rate
abbrev pub speed_of : ℕ → Option ℕ → ℕ
speed_of rate full = if is_near rate full then 49 else 223

abbrev pub rate_grown : ℕ → ℕ → ℕ → ℕ
rate_grown rate speed micros = rate + rate * speed * micros / 1000000000

-- It grows no further than the most, and than 1.5 times what comes through.
abbrev pub limited_rate : ℕ → ℕ → ℕ → ℕ → ℕ
limited_rate rate more most through = max (min more (min most (3 * through / 2))) rate

abbrev pub grown_to : ℕ → ℕ → Line → ℕ
grown_to through now l =
    limited_rate l.rate (rate_grown l.rate (speed_of l.rate l.full) (min (now - l.grown) 1000000000 / 1000))
    l.most through

abbrev pub grown : ℕ → ℕ → Line → Line
grown through now l = record l { rate = grown_to through now l; debt = drained l.rate now l.debt }

-- what waits on a line that was full
abbrev pub queued : Line → ℕ
queued l = l.trip - least_trip_of l.least_trip

-- Where most packets are lost, or the line is choked, no picture goes out for 200 ms. A full line gets
-- 85 % of what comes through, but no less than 70 % of the rate; and what waits on it is owed. Where
-- many are lost the rate shrinks by half of the share.
abbrev pub after_action : Action → ℕ → ℕ → Line → Line
after_action (actions.Cut eighths) through now l =
    record (shrunk (l.rate * eighths / 8) now l) {
      full = None;
      paused = min (now + 200000000) 18446744073709551615;
    }
after_action actions.Lossy through now l = shrunk (l.rate - l.rate * l.losses.share / 20000) now l
after_action actions.Full through now l =
    let s = shrunk (max (85 * through / 100) (7 * l.rate / 10)) now l in
    record s {
      full = Some through;
      debt = with_queue (queued l) s.rate s.debt;
      drains = Some (drain_of (least_trip_of l.least_trip) l.trip now);
    }
after_action actions.Grow through now l = grown through now l
after_action actions.Keep through now l = l

abbrev pub line_turned : Action → ℕ → ℕ → Line → Line
line_turned action through now l = record (after_action action through now l) { grown = now }

-- What becomes of a line where a picture is told of, and so much comes through.
abbrev pub line_when_told : Picture → Bool → ℕ → ℕ → Line → Line
line_when_told p is_whole through now l =
    let h = line_heard p is_whole now l in
    line_turned (action_of is_whole (slope_with p is_whole now l)
    (is_judged now (losses_counted p.packets is_whole l.losses)) through h) through now h
