-- No stream runs ahead of the clock.
use Rattle.std.proofs.Common.{◌≡◌, ℕ, ◌+◌, ◌-◌, ◌*◌, ◌/◌, ◌<◌, ◌≤◌, min, cond, leb, ltb, List, [], ◌∷◌, Option, Some, None, refl, ap, arith, ⊎_elim}
use Rattle.std.specs.Prelude.{MatchOption}
use Rattle.std.proofs.lemmas.Bool.{cases_lt, cond_both, ltb-false, ltb-true}
use Rattle.std.proofs.Math.Nat.{mul-le-mul_left}
use Rattle.stream_numbers.specs.declared.newest.Newest.{Newest}
use Rattle.stream_numbers.specs.declared.packet.Packet.{Packet}
use Rattle.stream_numbers.specs.declared.rate.Rate.{Rate}
use Rattle.stream_numbers.specs.declared.stepping.Step.{Step}
use Rattle.stream_numbers.specs.Counting.{allowed_in, nearest_to_base, time_of}
use Rattle.stream_numbers.specs.Placing.{IsRate, advanced, guess_of, newest_moved, newer, sequence_after, step_of, with_moved, with_number, with_stamp}
use Rattle.stream_numbers.specs.Streams.{HeardPacket}
use Rattle.stream_numbers.specs.Laws.{HeardInOrder, newest_after_all, newest_of}

-- From x to y: the numbers and the credit that is left were paid for, by the credit that there was
-- and by the time that went by.
record Paid (r : Rate) (x y : Newest) : Type 0 where
  pays : y.number * (r.second * 10000000000) + r.rate * (10 * y.credit)
      ≤ x.number * (r.second * 10000000000) + r.rate * (10 * x.credit) + r.rate * (11 * (y.at - x.at))
  later : x.at ≤ y.at

nothing_paid : (r : Rate) (x y : Newest) → y.number ≡ x.number → y.credit ≡ x.credit → y.at ≡ x.at → Paid r x y
nothing_paid r x y e f g =
    record {
      pays =
          let a = ap (λ (n : ℕ). n * (r.second * 10000000000)) e in
          let b = ap (λ (n : ℕ). r.rate * (10 * n)) f in
          enough (y.number * (r.second * 10000000000)) (x.number * (r.second * 10000000000)) (r.rate * (10 * y.credit))
          (r.rate * (10 * x.credit)) (r.rate * (11 * (y.at - x.at))) a b;
      later = omega arith;
    }
  where
    enough : (a b c d e : ℕ) → a ≡ b → c ≡ d → a + c ≤ b + d + e
    enough a b c d e f g = omega arith

-- the time of pictures is no shorter than they take
costs : (rate second pictures : ℕ) → 1 ≤ rate → pictures * second * 1000000000 ≤ rate * time_of rate second pictures
costs rate second pictures h = ceiling (pictures * second * 1000000000) rate h
  where
    ceiling : (n d : ℕ) → 1 ≤ d → n ≤ d * ((n + (d - 1)) / d)
    ceiling n d h = omega arith

-- each factor of the rate's
factors : (rate credit allowed cost left : ℕ) → left ≤ credit + allowed - cost → cost ≤ credit + allowed
    → rate * left + rate * cost ≤ rate * credit + rate * allowed
factors rate credit allowed cost left h i =
    let a : left + cost ≤ credit + allowed = omega arith in
    let b = mul-le-mul_left {m = left + cost} {n = credit + allowed} rate a in
    omega (arith, b)

tenth : (rate time : ℕ) → rate * (10 * allowed_in time) ≤ rate * (11 * time)
tenth rate time =
    let a : 10 * allowed_in time ≤ 11 * time = omega arith in
    mul-le-mul_left {m = 10 * allowed_in time} {n = 11 * time} rate a

advance_paid : (r : Rate) (x : Newest) (p : Packet) (number stamp now left : ℕ) → 1 ≤ r.rate → x.at ≤ now
    → x.number < number
    → left ≤ x.credit + allowed_in (now - x.at) - time_of r.rate r.second (number - x.number)
    → time_of r.rate r.second (number - x.number) ≤ x.credit + allowed_in (now - x.at)
    → Paid r x (newer x p number stamp now left)
advance_paid r x p number stamp now left h o i j k =
    let cost = time_of r.rate r.second (number - x.number) in
    let a = costs r.rate r.second (number - x.number) h in
    let l : min left 2000000000 ≤ x.credit + allowed_in (now - x.at) - cost = omega (arith, j) in
    let b = factors r.rate x.credit (allowed_in (now - x.at)) cost (min left 2000000000) l k in
    let c = tenth r.rate (now - x.at) in
    record {
      pays = sum number x.number r.second r.rate (min left 2000000000) x.credit (allowed_in (now - x.at)) cost
          (now - x.at)
          (omega arith) a b c;
      later = o;
    }
  where
    sum : (n m second rate left credit allowed cost time : ℕ) → m ≤ n
        → (n - m) * second * 1000000000 ≤ rate * cost
        → rate * left + rate * cost ≤ rate * credit + rate * allowed
        → rate * (10 * allowed) ≤ rate * (11 * time)
        → n * (second * 10000000000) + rate * (10 * left)
        ≤ m * (second * 10000000000) + rate * (10 * credit) + rate * (11 * time)
    sum n m second rate left credit allowed cost time h a b c =
        let k = n - m in
        let e : n ≡ m + k = omega arith in
        let f : (m + k) * (second * 10000000000) ≡ m * (second * 10000000000) + 10 *
        (k * second * 1000000000) = grind arith in
        let g = ap (λ (t : ℕ). t * (second * 10000000000)) e in
        omega (arith, a, b, c, f, g)

-- ---- whatever a packet does

abbrev PaidBy : Rate → Newest → Option Newest → Type 0
PaidBy r x o = MatchOption o (Unit {0}) (λ y. Paid r x y)

advanced_paid : (r : Rate) (x : Newest) (p : Packet) (number stamp now : ℕ) → 1 ≤ r.rate → x.at ≤ now
    → x.number < number
    → PaidBy r x (advanced r x p number stamp now)
advanced_paid r x p number stamp now h o i =
    let cost = time_of r.rate r.second (number - x.number) in
    let most = x.credit + allowed_in (now - x.at) in
    cond_both (ltb most cost) None (Some (newer x p number stamp now (most - cost))) (λ s. PaidBy r x s)
    (λ e. tt)
    (λ e. advance_paid r x p number stamp now (most - cost) h o i (omega arith) (ltb-false most cost e))

moved_paid : (r : Rate) (x : Newest) (p : Packet) (number stamp now : ℕ) → 1 ≤ r.rate → x.at ≤ now
    → PaidBy r x (newest_moved r x p number stamp now)
moved_paid r x p number stamp now h o =
    cond_both (leb 1048576 number) None
    (cond (ltb x.number number) (advanced r x p number stamp now) (Some (record x { sequence = sequence_after x p })))
    (λ s. PaidBy r x s)
    (λ e. tt)
    (λ e. cond_both (ltb x.number number) (advanced r x p number stamp now)
    (Some (record x { sequence = sequence_after x p }))
    (λ s. PaidBy r x s)
    (λ f. advanced_paid r x p number stamp now h o (ltb-true x.number number f))
    (λ f. nothing_paid r x (record x { sequence = sequence_after x p }) refl refl refl))

abbrev StepPaid : Rate → Newest → Option Step → Type 0
StepPaid r x o = MatchOption o (Unit {0}) (λ s. Paid r x s.newest)

with_moved_paid : (r : Rate) (x : Newest) (o : Option Newest) (number stamp : ℕ) → PaidBy r x o
    → StepPaid r x (with_moved o number stamp)
with_moved_paid r x None number stamp h = tt
with_moved_paid r x (Some y) number stamp h = h

with_number_paid : (r : Rate) (x : Newest) (p : Packet) (o : Option ℕ) (stamp now : ℕ) → 1 ≤ r.rate → x.at ≤ now
    → StepPaid r x (with_number r x p o stamp now)
with_number_paid r x p None stamp now h i = tt
with_number_paid r x p (Some number) stamp now h i =
    with_moved_paid r x (newest_moved r x p number stamp now) number stamp (moved_paid r x p number stamp now h i)

with_stamp_paid : (r : Rate) (x : Newest) (p : Packet) (o : Option ℕ) (now : ℕ) → 1 ≤ r.rate → x.at ≤ now
    → StepPaid r x (with_stamp r x p o now)
with_stamp_paid r x p None now h i = tt
with_stamp_paid r x p (Some stamp) now h i =
    cond_both (leb 70368744177664 stamp) None
    (with_number r x p (nearest_to_base (guess_of r x p stamp) p.reference r.period) stamp now) (λ s. StepPaid r x s)
    (λ e. tt)
    (λ e. with_number_paid r x p (nearest_to_base (guess_of r x p stamp) p.reference r.period) stamp now h i)

newest_paid : (r : Rate) (x : Newest) (o : Option Step) → StepPaid r x o → Paid r x (newest_of o x)
newest_paid r x None h = nothing_paid r x x refl refl refl
newest_paid r x (Some s) h = h

-- the newest picture came no later than the last packet
in_time : (r : Rate) (x : Newest) (o : Option Step) (now : ℕ) → x.at ≤ now
    → MatchOption o (Unit {0}) (λ s. s.newest.at ≤ now) → (newest_of o x).at ≤ now
in_time r x None now h i = h
in_time r x (Some s) now h i = i

abbrev NowBy : ℕ → Option Newest → Type 0
NowBy now o = MatchOption o (Unit {0}) (λ y. y.at ≤ now)

advanced_now : (r : Rate) (x : Newest) (p : Packet) (number stamp now : ℕ) → NowBy now (advanced r x p number stamp now)
advanced_now r x p number stamp now =
    let cost = time_of r.rate r.second (number - x.number) in
    let most = x.credit + allowed_in (now - x.at) in
    cond_both (ltb most cost) None (Some (newer x p number stamp now (most - cost))) (λ s. NowBy now s) (λ e. tt)
    (λ e. omega arith)

moved_now : (r : Rate) (x : Newest) (p : Packet) (number stamp now : ℕ) → x.at ≤ now
    → NowBy now (newest_moved r x p number stamp now)
moved_now r x p number stamp now o =
    cond_both (leb 1048576 number) None
    (cond (ltb x.number number) (advanced r x p number stamp now) (Some (record x { sequence = sequence_after x p })))
    (λ s. NowBy now s)
    (λ e. tt)
    (λ e. cond_both (ltb x.number number) (advanced r x p number stamp now)
    (Some (record x { sequence = sequence_after x p }))
    (λ s. NowBy now s)
    (λ f. advanced_now r x p number stamp now)
    (λ f. o))

abbrev StepNow : ℕ → Option Step → Type 0
StepNow now o = MatchOption o (Unit {0}) (λ s. s.newest.at ≤ now)

with_moved_now : (now : ℕ) (o : Option Newest) (number stamp : ℕ) → NowBy now o
    → StepNow now (with_moved o number stamp)
with_moved_now now None number stamp h = tt
with_moved_now now (Some y) number stamp h = h

with_number_now : (r : Rate) (x : Newest) (p : Packet) (o : Option ℕ) (stamp now : ℕ) → x.at ≤ now
    → StepNow now (with_number r x p o stamp now)
with_number_now r x p None stamp now i = tt
with_number_now r x p (Some number) stamp now i =
    with_moved_now now (newest_moved r x p number stamp now) number stamp (moved_now r x p number stamp now i)

with_stamp_now : (r : Rate) (x : Newest) (p : Packet) (o : Option ℕ) (now : ℕ) → x.at ≤ now
    → StepNow now (with_stamp r x p o now)
with_stamp_now r x p None now i = tt
with_stamp_now r x p (Some stamp) now i =
    cond_both (leb 70368744177664 stamp) None
    (with_number r x p (nearest_to_base (guess_of r x p stamp) p.reference r.period) stamp now) (λ s. StepNow now s)
    (λ e. tt)
    (λ e. with_number_now r x p (nearest_to_base (guess_of r x p stamp) p.reference r.period) stamp now i)

earlier : (a b : ℕ) (hs : List HeardPacket) → a ≤ b → HeardInOrder b hs → HeardInOrder a hs
earlier a b [] h o = tt
earlier a b (x ∷ hs) h o =
    let first = o.0 in
    (omega arith, o.1)

both_paid : (r : Rate) (x y z : Newest) → Paid r x y → Paid r y z → Paid r x z
both_paid r x y z p q =
    let l = p.later in
    let m = q.later in
    let a : z.at - x.at ≡ (y.at - x.at) + (z.at - y.at) = omega arith in
    let b = ap (λ (t : ℕ). r.rate * (11 * t)) a in
    let c = p.pays in
    let d = q.pays in
    record { pays = omega (arith, b, c, d); later = omega arith }

all_paid : (r : Rate) (x : Newest) (hs : List HeardPacket) → 1 ≤ r.rate → HeardInOrder x.at hs
    → Paid r x (newest_after_all r x hs)
all_paid r x [] h o = nothing_paid r x x refl refl refl
all_paid r x (e ∷ hs) h o =
    let step = step_of r (Some x) e.0 e.1 in
    let y = newest_of step x in
    let p = newest_paid r x step (with_stamp_paid r x e.0 (nearest_to_base x.stamp e.0.timestamp 4294967296) e.1 h o.0)
    in
    let n = in_time r x step e.1 o.0 (with_stamp_now r x e.0 (nearest_to_base x.stamp e.0.timestamp 4294967296) e.1 o.0)
    in
    both_paid r x y (newest_after_all r y hs) p (all_paid r y hs h (earlier y.at e.1 hs n o.1))

pub never_ahead : (r : Rate) (x : Newest) (hs : List HeardPacket) → IsRate r → HeardInOrder x.at hs
    → ((newest_after_all r x hs).number - x.number) * (r.second * 10000000000)
    ≤ r.rate * (10 * x.credit + 11 * ((newest_after_all r x hs).at - x.at))
never_ahead r x hs i o =
    let p = all_paid r x hs i.rate_low o in
    let pays = p.pays in
    less (newest_after_all r x hs).number x.number (r.second * 10000000000)
    (r.rate * (10 * (newest_after_all r x hs).credit)) r.rate
    (10 * x.credit) (11 * ((newest_after_all r x hs).at - x.at)) pays
  where
    less : (n m s l rate credit time : ℕ) → n * s + l ≤ m * s + rate * credit + rate * time
        → (n - m) * s ≤ rate * (credit + time)
    less n m s l rate credit time h =
        ⊎_elim
        (λ (i : n < m).
        let e : n - m ≡ 0 = omega arith in
        let f = ap (λ (k : ℕ). k * s) e in
        omega (arith, f))
        (λ (i : m ≤ n).
        let e : n ≡ m + (n - m) = omega arith in
        let f = ap (λ (k : ℕ). k * s) e in
        omega (arith, f, h))
        (cases_lt n m)
