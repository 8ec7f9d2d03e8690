-- The rate's bounds.
use Rattle.std.proofs.Common.{◌≡◌, ℕ, ◌-◌, ◌*◌, ◌/◌, ◌≤◌, min, max, Bool, true, false, cond, leb, List, [], ◌∷◌, Option, Some, None, refl, arith}
use Rattle.line_follower.specs.declared.follower.Follower.{Follower}
use Rattle.line_follower.specs.declared.line.Line.{Line}
use Rattle.line_follower.specs.declared.line.Action.{Action}
use Rattle.line_follower.specs.declared.line.Action.TheVariants as actions
use Rattle.line_follower.specs.declared.picture.Picture.{Picture}
use Rattle.line_follower.specs.Following.{noticed, started, follower_told_of, follower_with_line, with_told}
use Rattle.line_follower.specs.Pacing.{rate_per_second}
use Rattle.line_follower.specs.Laws.{FollowerEvent, HasBounds, NeverBeyond, Sends, StaysBetween, Tells, follower_after, follower_after_all}
use Rattle.line_follower.specs.Losing.{losses_counted, is_judged}
use Rattle.line_follower.specs.Rating.{action_of, line_heard, limited_rate, rate_grown, slope_with, speed_of, line_when_told, line_turned}
use Rattle.line_follower.specs.Table.{open_of, put, rate_through, picture_told}

-- ---- what is heard changes no rate

between_heard : (least most : ℕ) (p : Picture) (w : Bool) (now : ℕ) (l : Line) → HasBounds least most l
    → HasBounds least most (line_heard p w now l)
between_heard least most p true now l h =
    record { least_is = h.least_is; most_is = h.most_is; above = h.above; below = h.below }
between_heard least most p false now l h =
    record { least_is = h.least_is; most_is = h.most_is; above = h.above; below = h.below }

rate_heard : (p : Picture) (w : Bool) (now : ℕ) (l : Line) → (line_heard p w now l).rate ≡ l.rate
rate_heard p true now l = refl
rate_heard p false now l = refl

-- ---- each action

limited_between : (least most rate more m rate_through : ℕ) → m ≡ most → least ≤ rate → rate ≤ most
    → (least ≤ limited_rate rate more m rate_through) × (limited_rate rate more m rate_through ≤ most)
limited_between least most rate more m rate_through e h i =
    let a : least ≤ limited_rate rate more m rate_through = omega arith in
    let b : limited_rate rate more m rate_through ≤ most = omega arith in
    (a, b)

shrunk_between : (least most rate to l : ℕ) → l ≡ least → least ≤ rate → rate ≤ most
    → (least ≤ max (min to rate) l) × (max (min to rate) l ≤ most)
shrunk_between least most rate to l e h i =
    let a : least ≤ max (min to rate) l = omega arith in
    let b : max (min to rate) l ≤ most = omega arith in
    (a, b)

between_turned : (least most : ℕ) (a : Action) (rate_through now : ℕ) (l : Line) → HasBounds least most l
    → HasBounds least most (line_turned a rate_through now l)
between_turned least most (actions.Cut eighths) rate_through now l h =
    let b = shrunk_between least most l.rate (l.rate * eighths / 8) l.least h.least_is h.above h.below in
    record { least_is = h.least_is; most_is = h.most_is; above = b.0; below = b.1 }
between_turned least most actions.Lossy rate_through now l h =
    let b = shrunk_between least most l.rate (l.rate - l.rate * l.losses.share / 20000) l.least h.least_is h.above
    h.below in
    record { least_is = h.least_is; most_is = h.most_is; above = b.0; below = b.1 }
between_turned least most actions.Full rate_through now l h =
    let b = shrunk_between least most l.rate (max (85 * rate_through / 100) (7 * l.rate / 10)) l.least h.least_is
    h.above
    h.below in
    record { least_is = h.least_is; most_is = h.most_is; above = b.0; below = b.1 }
between_turned least most actions.Grow rate_through now l h =
    let b = limited_between least most l.rate
    (rate_grown l.rate (speed_of l.rate l.full) (min (now - l.grown) 1000000000 / 1000)) l.most rate_through h.most_is
    h.above
    h.below in
    record { least_is = h.least_is; most_is = h.most_is; above = b.0; below = b.1 }
between_turned least most actions.Keep rate_through now l h =
    record { least_is = h.least_is; most_is = h.most_is; above = h.above; below = h.below }

no_more : (to rate l cap : ℕ) → l ≤ rate → max (min to rate) l ≤ max rate cap
no_more to rate l cap h = omega arith

no_further : (more rate most cap : ℕ) → max (min more (min most cap)) rate ≤ max rate cap
no_further more rate most cap = omega arith

beyond_turned : (a : Action) (rate_through now : ℕ) (l : Line)
    → l.least ≤ l.rate → (line_turned a rate_through now l).rate ≤ max l.rate (3 * rate_through / 2)
beyond_turned (actions.Cut eighths) rate_through now l h = no_more (l.rate * eighths / 8) l.rate l.least
    (3 * rate_through / 2) h
beyond_turned actions.Lossy rate_through now l h =
    no_more (l.rate - l.rate * l.losses.share / 20000) l.rate l.least (3 * rate_through / 2) h
beyond_turned actions.Full rate_through now l h =
    no_more (max (85 * rate_through / 100) (7 * l.rate / 10)) l.rate l.least (3 * rate_through / 2) h
beyond_turned actions.Grow rate_through now l h =
    no_further (rate_grown l.rate (speed_of l.rate l.full) (min (now - l.grown) 1000000000 / 1000)) l.rate l.most
    (3 * rate_through / 2)
beyond_turned actions.Keep rate_through now l h = omega arith

-- ---- a message

between_told : (least most : ℕ) (p : Picture) (w : Bool) (rate_through now : ℕ) (l : Line) → HasBounds least most l
    → HasBounds least most (line_when_told p w rate_through now l)
between_told least most p w rate_through now l h =
    between_turned least most
    (action_of w (slope_with p w now l) (is_judged now (losses_counted p.packets w l.losses)) rate_through
    (line_heard p w now l))
    rate_through now (line_heard p w now l) (between_heard least most p w now l h)

between_noticed : (least most : ℕ) (p : Picture) (l : Line) → HasBounds least most l
    → HasBounds least most (noticed p l)
between_noticed least most p l h =
    record { least_is = h.least_is; most_is = h.most_is; above = h.above; below = h.below }

between_of : (least most : ℕ) (o : Option Picture) (w : Bool) (now : ℕ) (f : Follower) → HasBounds least most f.line
    → HasBounds least most (follower_told_of o w now f).line
between_of least most None w now f h = h
between_of least most (Some p) w now f h = between_if least most (leb f.line.since p.number) p w now f h
  where
    between_if : (least most : ℕ) (b : Bool) (p : Picture) (w : Bool) (now : ℕ) (f : Follower)
        → HasBounds least most f.line
        → HasBounds least most
        (cond b (follower_with_line
        (line_when_told p w (rate_through now (put (picture_told w now p) f.pictures)) now (noticed p f.line))
        (with_told p w now f))
        (with_told p w now f)).line
    between_if least most true p w now f h =
        between_told least most p w (rate_through now (put (picture_told w now p) f.pictures)) now (noticed p f.line)
        (between_noticed least most p f.line h)
    between_if least most false p w now f h = between_noticed least most p f.line h

between_after : (least most : ℕ) (f : Follower) (e : FollowerEvent) → HasBounds least most f.line
    → HasBounds least most (follower_after f e).line
between_after least most f (Sends number bytes packets now) h =
    record { least_is = h.least_is; most_is = h.most_is; above = h.above; below = h.below }
between_after least most f (Tells number w now) h = between_of least most (open_of number f.pictures) w now f h

between_all : (least most : ℕ) (f : Follower) (es : List FollowerEvent) → HasBounds least most f.line
    → HasBounds least most (follower_after_all f es).line
between_all least most f [] h = h
between_all least most f (e ∷ es) h = between_all least most (follower_after f e) es (between_after least most f e h)

pub stays_between : StaysBetween
stays_between b now es h i =
    between_all (rate_per_second b.least b.period) (rate_per_second b.most b.period) (started b now) es
    (record { least_is = refl; most_is = refl; above = h; below = i })

-- ---- never beyond what came

beyond_told : (p : Picture) (w : Bool) (rate_through now : ℕ) (l : Line) → l.least ≤ l.rate
    → (line_when_told p w rate_through now l).rate ≤ max l.rate (3 * rate_through / 2)
beyond_told p true rate_through now l h =
    beyond_turned
    (action_of true (slope_with p true now l) (is_judged now (losses_counted p.packets true l.losses)) rate_through
    (line_heard p true now l))
    rate_through now (line_heard p true now l) h
beyond_told p false rate_through now l h =
    beyond_turned
    (action_of false (slope_with p false now l) (is_judged now (losses_counted p.packets false l.losses)) rate_through
    (line_heard p false now l))
    rate_through now (line_heard p false now l) h

abbrev told_with : Bool → Picture → Bool → ℕ → Follower → Follower
told_with b p w now f =
    cond b (follower_with_line
    (line_when_told p w (rate_through now (put (picture_told w now p) f.pictures)) now (noticed p f.line))
    (with_told p w now f))
    (with_told p w now f)

beyond_if : (b : Bool) (p : Picture) (w : Bool) (now : ℕ) (f : Follower) → f.line.least ≤ f.line.rate
    → (told_with b p w now f).line.rate ≤ max f.line.rate (3 * rate_through now (told_with b p w now f).pictures / 2)
beyond_if true p w now f h = beyond_told p w (rate_through now (put (picture_told w now p) f.pictures)) now
    (noticed p f.line) h
beyond_if false p w now f h = omega arith

beyond_of : (o : Option Picture) (w : Bool) (now : ℕ) (f : Follower) → f.line.least ≤ f.line.rate
    → (follower_told_of o w now f).line.rate ≤ max f.line.rate
    (3 * rate_through now (follower_told_of o w now f).pictures / 2)
beyond_of None w now f h = omega arith
beyond_of (Some p) w now f h = beyond_if (leb f.line.since p.number) p w now f h

pub never_beyond : NeverBeyond
never_beyond f number w now h = beyond_of (open_of number f.pictures) w now f h
