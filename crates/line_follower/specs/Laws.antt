-- What holds of a rate, whatever is sent and told.
use Rattle.std.specs.Prelude.{◌≡◌, ◌≢◌, ℕ, ◌+◌, ◌*◌, ◌/◌, ◌<◌, ◌≤◌, max, min, ◌-◌, Bool, true, false, List, [], ◌∷◌, ◌++◌, None, length, slice_index}
use Rattle.std.specs.List.{AllByRecursion}
use Rattle.line_follower.specs.declared.follower.Follower.{Follower}
use Rattle.line_follower.specs.declared.line.Line.{Line}
use Rattle.line_follower.specs.declared.pace.Bounds.{Bounds}
use Rattle.line_follower.specs.declared.picture.Picture.{Picture}
use Rattle.line_follower.specs.declared.trend.Trend.{Trend}
use Rattle.line_follower.specs.declared.trend.Slope.TheVariants as slopes
use Rattle.line_follower.specs.declared.trips.Thirds.{Thirds}
use Rattle.line_follower.specs.Following.{follower_after_sent, after_told, all_bytes, has_room, is_frame_held, started}
use Rattle.line_follower.specs.Losing.{carried_by, losses_counted, is_judged, latest_with}
use Rattle.line_follower.specs.Numbers.{numbers}
use Rattle.line_follower.specs.Pacing.{rate_per_second}
use Rattle.line_follower.specs.Rating.{line_heard, is_choked, line_when_told}
use Rattle.line_follower.specs.Table.{rate_through, trip_of}
use Rattle.line_follower.specs.Trending.{is_down, is_up, slope_of, thirds_with}

-- a picture goes out, or a message about one comes
pub data FollowerEvent : Type 0 where
  Sends : (number bytes packets now : ℕ) → FollowerEvent
  Tells : (number : ℕ) (is_whole : Bool) (now : ℕ) → FollowerEvent

abbrev pub follower_after : Follower → FollowerEvent → Follower
follower_after f (Sends number bytes packets now) = follower_after_sent number bytes packets now f
follower_after f (Tells number is_whole now) = after_told number is_whole now f

-- the oldest first
abbrev pub follower_after_all : Follower → List FollowerEvent → Follower
follower_after_all f [] = f
follower_after_all f (e ∷ es) = follower_after_all (follower_after f e) es

-- ---- the rate's bounds

pub record HasBounds (least most : ℕ) (l : Line) : Type 0 where
  pub least_is : l.least ≡ least
  pub most_is : l.most ≡ most
  pub above : least ≤ l.rate
  pub below : l.rate ≤ most

-- Whatever is sent and told, the rate stays between the least and the most.
abbrev pub StaysBetween : Type 0
StaysBetween =
    (b : Bounds) (now : ℕ) (es : List FollowerEvent)
    → rate_per_second b.least b.period ≤ rate_per_second b.first b.period
    → rate_per_second b.first b.period ≤ rate_per_second b.most b.period
    → HasBounds (rate_per_second b.least b.period) (rate_per_second b.most b.period)
    (follower_after_all (started b now) es).line

-- A message makes the rate no greater than 1.5 times what came whole in the last half second, with
-- what it tells of: above that it isn't greater than before.
abbrev pub NeverBeyond : Type 0
NeverBeyond =
    (f : Follower) (number : ℕ) (is_whole : Bool) (now : ℕ) → f.line.least ≤ f.line.rate
    → (after_told number is_whole now f).line.rate
    ≤ max f.line.rate (3 * rate_through now (after_told number is_whole now f).pictures / 2)

-- ---- what is owed

-- Where a picture goes out only where there is room, no more is owed after it than a fifth of a second
-- of the rate, and the picture itself.
abbrev pub OwesLittle : Type 0
OwesLittle =
    (f : Follower) (number bytes packets now : ℕ) → has_room now f ≡ true
    → (follower_after_sent number bytes packets now f).line.debt.owed
    ≤ f.line.rate * 200000000 + all_bytes bytes packets * 1000000000

-- ---- what isn't told yet

-- Where no picture went out for 200 ms, nothing that is waited for holds the next one.
abbrev pub HeldBriefly : Type 0
HeldBriefly = (f : Follower) (now : ℕ) → 200000000 ≤ now - f.line.out → is_frame_held now f ≡ false

-- A line is choked with the third late picture alone.
abbrev pub ChokedThrice : Type 0
ChokedThrice =
    (p : Picture) (is_whole : Bool) (rate_through now : ℕ) (l : Line)
    → is_choked rate_through (line_heard p is_whole now l) ≡ true → 2 ≤ l.late.count

-- What a choked line has left, where a picture isn't whole: no more than a quarter of the rate, or the
-- least; and no picture goes out for 200 ms, so that what waits on it goes first.
abbrev pub ChokedGivesWay : Type 0
ChokedGivesWay =
    (p : Picture) (rate_through now : ℕ) (l : Line)
    → is_choked rate_through (line_heard p false now l) ≡ true
    → let m = line_when_told p false rate_through now l in
    (m.rate ≤ max (l.rate * 2 / 8) l.least) × (m.paused ≡ min (now + 200000000) 18446744073709551615)

-- ---- round trips

-- those of the newest third and of the oldest
abbrev pub trips_of : Thirds → List ℕ
trips_of t = numbers t.newest ++ numbers t.oldest

-- each of these numbers lies between two, but for the one at this place
abbrev pub AllBut : ℕ → ℕ → ℕ → List ℕ → Type 0
AllBut low high place ns =
    (k : ℕ) → k < length ns → k ≢ place → (low ≤ slice_index ns k) × (slice_index ns k ≤ high)

-- Where all round trips but one are within the threshold of each other none rises or falls, whatever
-- that one is.
abbrev pub OneOutlier : Type 0
OneOutlier =
    (threshold low high place : ℕ) (t : Thirds) → high ≤ low + threshold
    → AllBut low high place (trips_of t)
    → (is_up threshold t ≡ false) × (is_down threshold t ≡ false)

-- A rise counts with the second picture alone.
abbrev pub TwoInARow : Type 0
TwoInARow =
    (rate trip bytes : ℕ) (t : Trend) → slope_of rate trip bytes t ≡ slopes.Rising
    → t.is_rising ≡ true

-- One late message shrinks no rate: that of a whole picture, where all round trips but one, with its
-- own, are within the threshold of each other. (Where losses are judged, or most of the latest
-- pictures were lost, these may shrink it.)
abbrev pub LateAlone : Type 0
LateAlone =
    (p : Picture) (rate_through now low high place : ℕ) (l : Line)
    → high ≤ low + l.trend.threshold.micros
    → AllBut low high place (trips_of (thirds_with l.rate (trip_of now p) p.bytes l.trend))
    → carried_by (latest_with p.packets true l.latest) ≡ None
    → is_judged now (losses_counted p.packets true l.losses) ≡ false
    → l.rate ≤ (line_when_told p true rate_through now l).rate

-- ---- messages that say nothing

-- no picture of this number goes out
abbrev pub IsOther : ℕ → FollowerEvent → Type 0
IsOther number (Sends other bytes packets now) = other ≢ number
IsOther number (Tells other is_whole now) = Unit {0}

-- A message about a picture that wasn't sent changes nothing.
abbrev pub NeverSent : Type 0
NeverSent =
    (b : Bounds) (start number now : ℕ) (is_whole : Bool) (es : List FollowerEvent)
    → AllByRecursion (IsOther number) es
    → after_told number is_whole now (follower_after_all (started b start) es)
    ≡ follower_after_all (started b start) es

-- Nor does a second one about the same.
abbrev pub ToldTwice : Type 0
ToldTwice =
    (f : Follower) (number now later : ℕ) (is_whole is_whole_later : Bool) (es : List FollowerEvent)
    → AllByRecursion (IsOther number) es
    → let g = follower_after_all (after_told number is_whole now f) es in
    after_told number is_whole_later later g ≡ g
