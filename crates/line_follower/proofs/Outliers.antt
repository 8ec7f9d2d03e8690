-- One round trip that lies outside the others.
use Rattle.std.proofs.Common.{◌≡◌, ◌≢◌, ℕ, ◌+◌, ◌-◌, ◌*◌, ◌/◌, ◌≤◌, min, max, Bool, true, false, cond, Option, Some, None, refl, sym, arith, ⊎_elim}
use Rattle.std.proofs.lemmas.Bool.{cases_eq, le-ltb}
use Rattle.line_follower.specs.declared.four.Four.{Four}
use Rattle.line_follower.specs.declared.trips.Thirds.{Thirds}
use Rattle.line_follower.specs.declared.drain.Drain.{Drain}
use Rattle.line_follower.specs.declared.line.Line.{Line}
use Rattle.line_follower.specs.declared.line.Action.TheVariants as actions
use Rattle.line_follower.specs.declared.trend.Slope.{Slope}
use Rattle.line_follower.specs.declared.trend.Slope.TheVariants as slopes
use Rattle.line_follower.specs.Laws.{AllBut, LateAlone, OneOutlier, TwoInARow, trips_of}
use Rattle.line_follower.specs.Losing.{carried_by, losses_counted, is_judged, latest_with}
use Rattle.line_follower.specs.Rating.{calm_action, cutting_action, draining_action, line_heard, may_grow, rate_grown, speed_of, line_turned}
use Rattle.line_follower.specs.Table.{trip_of}
use Rattle.line_follower.specs.Numbers.{middle_two}
use Rattle.line_follower.specs.Trending.{fall_of, is_down, are_trips_full, is_up, rise_of, slope_of, thirds_with, trips_with}

-- ---- the two in the middle of four

most_1 : (a b c d h : ℕ) → b ≤ h → c ≤ h → d ≤ h
    → a + (b + (c + d)) - max a (max b (max c d)) - min a (min b (min c d)) ≤ h + h
most_1 a b c d h x y z = omega arith

most_2 : (a b c d h : ℕ) → a ≤ h → c ≤ h → d ≤ h
    → a + (b + (c + d)) - max a (max b (max c d)) - min a (min b (min c d)) ≤ h + h
most_2 a b c d h x y z = omega arith

most_3 : (a b c d h : ℕ) → a ≤ h → b ≤ h → d ≤ h
    → a + (b + (c + d)) - max a (max b (max c d)) - min a (min b (min c d)) ≤ h + h
most_3 a b c d h x y z = omega arith

most_4 : (a b c d h : ℕ) → a ≤ h → b ≤ h → c ≤ h
    → a + (b + (c + d)) - max a (max b (max c d)) - min a (min b (min c d)) ≤ h + h
most_4 a b c d h x y z = omega arith

few_1 : (a b c d l : ℕ) → l ≤ b → l ≤ c → l ≤ d
    → l + l ≤ a + (b + (c + d)) - max a (max b (max c d)) - min a (min b (min c d))
few_1 a b c d l x y z = omega arith

few_2 : (a b c d l : ℕ) → l ≤ a → l ≤ c → l ≤ d
    → l + l ≤ a + (b + (c + d)) - max a (max b (max c d)) - min a (min b (min c d))
few_2 a b c d l x y z = omega arith

few_3 : (a b c d l : ℕ) → l ≤ a → l ≤ b → l ≤ d
    → l + l ≤ a + (b + (c + d)) - max a (max b (max c d)) - min a (min b (min c d))
few_3 a b c d l x y z = omega arith

few_4 : (a b c d l : ℕ) → l ≤ a → l ≤ b → l ≤ c
    → l + l ≤ a + (b + (c + d)) - max a (max b (max c d)) - min a (min b (min c d))
few_4 a b c d l x y z = omega arith

pub record Middle (low high : ℕ) (f : Four) : Type 0 where
  pub above : low + low ≤ middle_two f
  pub below : middle_two f ≤ high + high

-- a number lies between, unless it has this place
abbrev In : ℕ → ℕ → ℕ → ℕ → ℕ → Type 0
In low high place k n = k ≢ place → (low ≤ n) × (n ≤ high)

middle_in : (low high start place : ℕ) (f : Four) → In low high place start f.first
    → In low high place (start + 1) f.second → In low high place (start + 2) f.third
    → In low high place (start + 3) f.fourth → Middle low high f
middle_in low high start place f p q r s =
    ⊎_elim
    (λ (e : place ≡ start).
    let b = q (omega arith) in
    let c = r (omega arith) in
    let d = s (omega arith) in
    record {
      above = few_1 f.first f.second f.third f.fourth low b.0 c.0 d.0;
      below = most_1 f.first f.second f.third f.fourth high b.1 c.1 d.1;
    })
    (λ (n : place ≡ start → ⊥).
    let a = p (λ x. n (sym x)) in
    ⊎_elim
    (λ (e : place ≡ start + 1).
    let c = r (omega arith) in
    let d = s (omega arith) in
    record {
      above = few_2 f.first f.second f.third f.fourth low a.0 c.0 d.0;
      below = most_2 f.first f.second f.third f.fourth high a.1 c.1 d.1;
    })
    (λ (m : place ≡ start + 1 → ⊥).
    let b = q (λ x. m (sym x)) in
    ⊎_elim
    (λ (e : place ≡ start + 2).
    let d = s (omega arith) in
    record {
      above = few_3 f.first f.second f.third f.fourth low a.0 b.0 d.0;
      below = most_3 f.first f.second f.third f.fourth high a.1 b.1 d.1;
    })
    (λ (o : place ≡ start + 2 → ⊥).
    let c = r (λ x. o (sym x)) in
    record {
      above = few_4 f.first f.second f.third f.fourth low a.0 b.0 c.0;
      below = most_4 f.first f.second f.third f.fourth high a.1 b.1 c.1;
    })
    (cases_eq place (start + 2)))
    (cases_eq place (start + 1)))
    (cases_eq place start)

newest_middle : (low high place : ℕ) (t : Thirds) → AllBut low high place (trips_of t) → Middle low high t.newest
newest_middle low high place t h =
    middle_in low high 0 place t.newest (h 0 (omega arith)) (h 1 (omega arith)) (h 2 (omega arith))
    (h 3 (omega arith))

oldest_middle : (low high place : ℕ) (t : Thirds) → AllBut low high place (trips_of t) → Middle low high t.oldest
oldest_middle low high place t h =
    middle_in low high 4 place t.oldest (h 4 (omega arith)) (h 5 (omega arith)) (h 6 (omega arith))
    (h 7 (omega arith))

-- ---- no rise and no fall

small_change : (x y low high threshold : ℕ) → y ≤ high + high → low + low ≤ x → high ≤ low + threshold
    → (y - x) / 2 ≤ threshold
small_change x y low high threshold a b c = omega arith

never : (b c d : Bool) → d ≡ false → cond b (cond c d false) false ≡ false
never true true d e = e
never true false d e = refl
never false c d e = refl

pub one_outlier : OneOutlier
one_outlier threshold low high place t near h =
    let n = newest_middle low high place t h in
    let o = oldest_middle low high place t h in (
      never _ _ _ (le-ltb threshold (rise_of t)
          (small_change (middle_two t.oldest) (middle_two t.newest) low high threshold n.below o.above near)),
      never _ _ _ (le-ltb threshold (fall_of t)
          (small_change (middle_two t.newest) (middle_two t.oldest) low high threshold o.below n.above near)),
    )

-- ---- two in a row

rising : (b c d r : Bool)
    → cond b (cond c slopes.Falling (cond d (cond r slopes.Rising slopes.Level) slopes.Level)) slopes.Level
    ≡ slopes.Rising → r ≡ true
rising b c d true e = refl
rising true true d false e = cc
rising true false true false e = cc
rising true false false false e = cc
rising false c d false e = cc

pub two_in_a_row : TwoInARow
two_in_a_row rate trip bytes t e =
    let thirds = thirds_with rate trip bytes t in
    rising (are_trips_full (trips_with trip bytes t.trips)) (is_down t.threshold.micros thirds)
    (is_up t.threshold.micros thirds) t.is_rising e

-- ---- one late message

not_rising : (b c d r : Bool) → d ≡ false
    → cond b (cond c slopes.Falling (cond d (cond r slopes.Rising slopes.Level) slopes.Level)) slopes.Level
    ≡ slopes.Rising → ⊥
not_rising true true d r h e = cc
not_rising true false true r h e = cc
not_rising true false false r h e = cc
not_rising false c d r h e = cc

no_less : (more rate most cap : ℕ) → rate ≤ max (min more (min most cap)) rate
no_less more rate most cap = omega arith

grows_or_stays : (b : Bool) (through now : ℕ) (l : Line)
    → l.rate ≤ (line_turned (cond b actions.Grow actions.Keep) through now l).rate
grows_or_stays true through now l =
    no_less (rate_grown l.rate (speed_of l.rate l.full) (min (now - l.grown) 1000000000 / 1000)) l.rate l.most
    (3 * through / 2)
grows_or_stays false through now l = omega arith

calm : (s : Slope) (through now : ℕ) (l : Line) → (s ≡ slopes.Rising → ⊥)
    → l.rate ≤ (line_turned (calm_action s through l) through now l).rate
calm slopes.Rising through now l h = absurd (h refl)
calm slopes.Falling through now l h = omega arith
calm slopes.Level through now l h = grows_or_stays (may_grow through l) through now l

draining : (o : Option Drain) (s : Slope) (through now : ℕ) (l : Line) → (s ≡ slopes.Rising → ⊥)
    → l.rate ≤ (line_turned (draining_action o s through l) through now l).rate
draining None s through now l h = calm s through now l h
draining (Some d) s through now l h = omega arith

quiet : (o : Option ℕ) (j : Bool) (s : Slope) (through now : ℕ) (l : Line) → o ≡ None → j ≡ false
    → (s ≡ slopes.Rising → ⊥) → l.rate ≤ (line_turned (cutting_action o s j through l) through now l).rate
quiet None false s through now l e i h = draining l.drains s through now l h
quiet None true s through now l e i h = cc
quiet (Some n) j s through now l e i h = cc

pub late_alone : LateAlone
late_alone p through now low high place l near h e i =
    let thirds = thirds_with l.rate (trip_of now p) p.bytes l.trend in
    let up = (one_outlier l.trend.threshold.micros low high place thirds near h).0 in
    quiet (carried_by (latest_with p.packets true l.latest)) (is_judged now (losses_counted p.packets true l.losses))
    (slope_of l.rate (trip_of now p) p.bytes l.trend) through now (line_heard p true now l) e i
    (not_rising (are_trips_full (trips_with (trip_of now p) p.bytes l.trend.trips))
    (is_down l.trend.threshold.micros thirds)
    (is_up l.trend.threshold.micros thirds) l.trend.is_rising up)
