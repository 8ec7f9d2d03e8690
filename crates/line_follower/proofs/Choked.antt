-- What isn't told yet, and lines that are choked.
use Rattle.std.proofs.Common.{◌≡◌, ℕ, ◌+◌, ◌-◌, ◌*◌, ◌/◌, ◌≤◌, min, max, Bool, true, false, cond, leb, ltb, Option, Some, None, refl, ap, arith}
use Rattle.std.proofs.lemmas.Bool.{leb-true, le-leb}
use Rattle.line_follower.specs.declared.line.Line.{Line}
use Rattle.line_follower.specs.declared.lateness.Lateness.{Lateness}
use Rattle.line_follower.specs.declared.picture.Picture.{Picture}
use Rattle.line_follower.specs.Choking.{late_count, lateness_with}
use Rattle.line_follower.specs.Following.{is_held_by, longest_silence}
use Rattle.line_follower.specs.Laws.{ChokedGivesWay, ChokedThrice, HeldBriefly}
use Rattle.line_follower.specs.Losing.{carried_by, losses_counted, is_judged}
use Rattle.line_follower.specs.Owing.{least_trip_of}
use Rattle.line_follower.specs.Rating.{eighths_left, cutting_action, line_heard, is_choked, slope_with, line_turned}
use Rattle.line_follower.specs.Table.{open_of, trip_of}

-- ---- no frame is held for long

first_false : (b c : Bool) → b ≡ true → cond b false c ≡ false
first_false b c e = ap (λ (x : Bool). cond x false c) e

held_briefly_by : (now : ℕ) (l : Line) (o : Option Picture) → 200000000 ≤ now - l.out
    → is_held_by now l o ≡ false
held_briefly_by now l None h = refl
held_briefly_by now l (Some p) h =
    first_false (leb 200000000 (now - l.out)) (ltb (longest_silence l) (trip_of now p))
    (le-leb 200000000 (now - l.out) h)

pub held_briefly : HeldBriefly
held_briefly f now h = held_briefly_by now f.line (open_of f.line.untold f.pictures) h

-- ---- the third late picture

both_true : (b c : Bool) → cond b c false ≡ true → b ≡ true
both_true true c e = refl
both_true false c e = cc

count_most : (a b : Bool) (n : ℕ) → 3 ≤ cond a (cond b (min (n + 1) 3) n) 0 → 2 ≤ n
count_most true true n h = omega arith
count_most true false n h = omega arith
count_most false b n h = omega arith

with_most : (b : Bool) (least at trip : ℕ) (l : Lateness)
    → 3 ≤ (cond b (record { at = at; trip = trip; count = late_count least at trip l }) l).count → 2 ≤ l.count
with_most true least at trip l h =
    count_most (ltb (least + 50000) trip) (ltb (2 * l.trip + (at - l.at) / 1000) (2 * trip)) l.count h
with_most false least at trip l h = omega arith

late_heard : (p : Picture) (w : Bool) (now : ℕ) (l : Line)
    → (line_heard p w now l).late ≡ lateness_with (least_trip_of l.least_trip) p.at (trip_of now p) l.late
late_heard p true now l = refl
late_heard p false now l = refl

pub choked_thrice : ChokedThrice
choked_thrice p w through now l e =
    let m = line_heard p w now l in
    let h = leb-true 3 m.late.count (both_true (leb 3 m.late.count) (ltb (2 * through) m.rate) e) in
    let k = ap (λ (x : Lateness). x.count) (late_heard p w now l) in
    let i : 3 ≤ (lateness_with (least_trip_of l.least_trip) p.at (trip_of now p) l.late).count = omega arith in
    with_most (ltb l.late.at p.at) (least_trip_of l.least_trip) p.at (trip_of now p) l.late i

-- ---- what is left

cut_two : (b : Bool) (o : Option ℕ) → b ≡ true → cond b (let x : Option ℕ = Some 2 in x) o ≡ Some 2
cut_two b o e = ap (λ (x : Bool). cond x (let y : Option ℕ = Some 2 in y) o) e

less_of : (a b rate l : ℕ) → a ≡ b → max (min a rate) l ≤ max b l
less_of a b rate l e = omega arith

gives_way : (o : Option ℕ) (p : Picture) (through now : ℕ) (l : Line) → o ≡ Some 2
    → let m = line_turned (cutting_action o (slope_with p false now l)
    (is_judged now (losses_counted p.packets false l.losses)) through (line_heard p false now l)) through now
    (line_heard p false now l) in
    (m.rate ≤ max (l.rate * 2 / 8) l.least) × (m.paused ≡ min (now + 200000000) 18446744073709551615)
gives_way None p through now l e = cc
gives_way (Some n) p through now l e =
    let i : n ≡ 2 = cc in
    let h : max (min (l.rate * n / 8) l.rate) l.least ≤ max (l.rate * 2 / 8) l.least =
    (let j : l.rate * n / 8 ≡ l.rate * 2 / 8 = ap (λ (k : ℕ). l.rate * k / 8) i in
    less_of (l.rate * n / 8) (l.rate * 2 / 8) l.rate l.least j) in
    (h, refl)

pub choked_gives_way : ChokedGivesWay
choked_gives_way p through now l e =
    let m = line_heard p false now l in
    gives_way (eighths_left false through m) p through now l
    (cut_two (is_choked through m) (carried_by m.latest) e)
