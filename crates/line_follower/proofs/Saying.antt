-- Messages about pictures that weren't sent, and second ones.
use Rattle.std.proofs.Common.{◌≡◌, ℕ, zero, suc, ◌%◌, ◌<◌, Bool, true, false, cond, eqb, leb, List, [], ◌∷◌, Option, Some, None, set, replicate, refl, ap, sym, arith, ◌∙◌, ⊎_elim, ◌⊎◌, inl, inr}
use Rattle.std.proofs.lemmas.Bool.{eqb-true, ne_eqb}
use Rattle.std.proofs.lemmas.List.{get_or-replicate, length-replicate}
use Rattle.std.proofs.lemmas.Option.{slice_get-get_or}
use Rattle.std.specs.List.{AllByRecursion, slice_get}
use Rattle.line_follower.specs.declared.follower.Follower.{Follower}
use Rattle.line_follower.specs.declared.pace.Bounds.{Bounds}
use Rattle.line_follower.specs.declared.picture.Picture.{Picture}
use Rattle.line_follower.specs.Following.{after_told, noticed, sent_picture, started, follower_told_of, follower_with_line, with_told}
use Rattle.line_follower.specs.Laws.{FollowerEvent, IsOther, NeverSent, Sends, Tells, ToldTwice, follower_after, follower_after_all}
use Rattle.line_follower.specs.Rating.{line_when_told}
use Rattle.line_follower.specs.Table.{fate_of, is_untold_number, is_untold, no_picture, open_at, open_of, put, rate_through, picture_told}

-- ---- places

get_set : (ps : List Picture) (i j : ℕ) (q : Picture)
    → (slice_get (set ps i q) j ≡ slice_get ps j) ⊎ (slice_get (set ps i q) j ≡ Some q)
get_set [] i j q = inl refl
get_set (p ∷ ps) zero zero q = inr refl
get_set (p ∷ ps) zero (suc j) q = inl refl
get_set (p ∷ ps) (suc i) zero q = inl refl
get_set (p ∷ ps) (suc i) (suc j) q = get_set ps i j q

get_set_same : (ps : List Picture) (i : ℕ) (p q : Picture) → slice_get ps i ≡ Some p
    → slice_get (set ps i q) i ≡ Some q
get_set_same [] i p q e = cc
get_set_same (r ∷ ps) zero p q e = refl
get_set_same (r ∷ ps) (suc i) p q e = get_set_same ps i p q e

-- ---- closed pictures

abbrev Closed : ℕ → List Picture → Type 0
Closed n ps = open_of n ps ≡ None

closed_one : (n : ℕ) (q : Picture) → is_untold_number n q ≡ false → open_at n (Some q) ≡ None
closed_one n q e = ap (λ (b : Bool). cond b (let x : Option Picture = Some q in x) None) e

closed_put : (n i : ℕ) (q : Picture) (ps : List Picture) → is_untold_number n q ≡ false → Closed n ps
    → Closed n (set ps i q)
closed_put n i q ps e h =
    ⊎_elim (λ (s : slice_get (set ps i q) (n % 256) ≡ slice_get ps (n % 256)). ap (open_at n) s ∙ h)
    (λ (s : slice_get (set ps i q) (n % 256) ≡ Some q). ap (open_at n) s ∙ closed_one n q e)
    (get_set ps i (n % 256) q)

both_false : (b c : Bool) → c ≡ false → cond b c false ≡ false
both_false true c e = e
both_false false c e = refl

first_false : (b c : Bool) → b ≡ false → cond b c false ≡ false
first_false b c e = ap (λ (x : Bool). cond x c false) e

told_untold : (w : Bool) (now : ℕ) → is_untold (fate_of w now) ≡ false
told_untold true now = refl
told_untold false now = refl

told_not_open : (n : ℕ) (w : Bool) (now : ℕ) (p : Picture) → is_untold_number n (picture_told w now p) ≡ false
told_not_open n w now p = both_false (eqb p.number n) (is_untold (fate_of w now)) (told_untold w now)

-- ---- what is told of a picture

abbrev told_with : Bool → Picture → Bool → ℕ → Follower → Follower
told_with b p w now f =
    cond b (follower_with_line
    (line_when_told p w (rate_through now (put (picture_told w now p) f.pictures)) now (noticed p f.line))
    (with_told p w now f))
    (with_told p w now f)

pictures_with : (b : Bool) (p : Picture) (w : Bool) (now : ℕ) (f : Follower)
    → (told_with b p w now f).pictures ≡ put (picture_told w now p) f.pictures
pictures_with true p w now f = refl
pictures_with false p w now f = refl

-- it closes no other
closed_of : (n : ℕ) (o : Option Picture) (w : Bool) (now : ℕ) (f : Follower) → Closed n f.pictures
    → Closed n (follower_told_of o w now f).pictures
closed_of n None w now f h = h
closed_of n (Some p) w now f h =
    ap (open_of n) (pictures_with (leb f.line.since p.number) p w now f)
    ∙ closed_put n (p.number % 256) (picture_told w now p) f.pictures (told_not_open n w now p) h

closed_after : (n : ℕ) (f : Follower) (e : FollowerEvent) → IsOther n e → Closed n f.pictures
    → Closed n (follower_after f e).pictures
closed_after n f (Sends number bytes packets now) i h =
    closed_put n (number % 256) (sent_picture number bytes packets now) f.pictures
    (first_false (eqb number n) true (ne_eqb number n i)) h
closed_after n f (Tells number w now) i h = closed_of n (open_of number f.pictures) w now f h

closed_all : (n : ℕ) (f : Follower) (es : List FollowerEvent) → AllByRecursion (IsOther n) es → Closed n f.pictures
    → Closed n (follower_after_all f es).pictures
closed_all n f [] i h = h
closed_all n f (e ∷ es) i h = closed_all n (follower_after f e) es i.1 (closed_after n f e i.0 h)

told_nothing : (n : ℕ) (w : Bool) (now : ℕ) (f : Follower) → Closed n f.pictures → after_told n w now f ≡ f
told_nothing n w now f h = ap (λ (o : Option Picture). follower_told_of o w now f) h

-- ---- never sent

started_at : (n k : ℕ) → k < 256 → slice_get (replicate 256 no_picture) k ≡ Some no_picture
started_at n k h =
    slice_get-get_or (replicate 256 no_picture) k no_picture (let l = length-replicate 256 no_picture in omega arith)
    ∙ ap (λ (p : Picture). let x : Option Picture = Some p in x) (get_or-replicate 256 k no_picture no_picture h)

started_closed : (n : ℕ) (b : Bounds) (start : ℕ) → Closed n (started b start).pictures
started_closed n b start =
    ap (open_at n) (started_at n (n % 256) (omega arith))
    ∙ closed_one n no_picture (both_false (eqb 0 n) false refl)

pub never_sent : NeverSent
never_sent b start number now w es h =
    told_nothing number w now (follower_after_all (started b start) es)
    (closed_all number (started b start) es h (started_closed number b start))

-- ---- told twice

some_of : (b : Bool) (q p : Picture) → cond b (let x : Option Picture = Some q in x) None ≡ Some p
    → (b ≡ true) × (q ≡ p)
some_of true q p e = let s : q ≡ p = cc in (refl, s)
some_of false q p e = cc

first_true : (b c : Bool) → cond b c false ≡ true → b ≡ true
first_true true c e = refl
first_true false c e = cc

opened : (n : ℕ) (s : Option Picture) (p : Picture) → open_at n s ≡ Some p → (s ≡ Some p) × (p.number ≡ n)
opened n None p e = cc
opened n (Some q) p e =
    let s = some_of (is_untold_number n q) q p e in
    let t = eqb-true q.number n (first_true (eqb q.number n) (is_untold q.fate) s.0) in
    (ap (λ (x : Picture). let y : Option Picture = Some x in y) s.1, sym (ap (λ (x : Picture). x.number) s.1) ∙ t)

closed_told : (n : ℕ) (w : Bool) (now : ℕ) (f : Follower) (o : Option Picture) → open_of n f.pictures ≡ o
    → Closed n (follower_told_of o w now f).pictures
closed_told n w now f None e = e
closed_told n w now f (Some p) e =
    let s = opened n (slice_get f.pictures (n % 256)) p e in
    ap (open_of n) (pictures_with (leb f.line.since p.number) p w now f)
    ∙ ap (λ (k : ℕ). open_of n (set f.pictures (k % 256) (picture_told w now p))) s.1
    ∙ ap (open_at n) (get_set_same f.pictures (n % 256) p (picture_told w now p) s.0)
    ∙ closed_one n (picture_told w now p) (told_not_open n w now p)

pub told_twice : ToldTwice
told_twice f number now later w v es h =
    told_nothing number v later (follower_after_all (after_told number w now f) es)
    (closed_all number (after_told number w now f) es h
    (closed_told number w now f (open_of number f.pictures) refl))
