-- How high the level comes, and so the sum.
use Rattle.std.proofs.Common.{◌≡◌, ℕ, suc, ◌+◌, ◌-◌, ◌*◌, ◌≤◌, min, Bool, true, false, cond, ltb, List, [], ◌∷◌, ◌++◌, length, map, sum, arith, refl, sym, subst, ◌∙◌, ltb-false}
use Rattle.std.proofs.lemmas.List.Sums.{sum_by-cons}
use Rattle.h263_types.specs.declared.Kind.{Kind}
use Rattle.h263_types.specs.declared.Kind.TheVariants.{I, P}
use Rattle.picture_pace.specs.declared.fit.FitPace.{FitPace}
use Rattle.picture_pace.specs.Fitting.{after_coded, difficulty_of, fitting, poured_into, fitting_quant, pace_at_start, bytes_wanted}
use Rattle.picture_pace.specs.Laws.{PacedPicture, KeepsTo, LevelStays, SumStays, after_pictures, after_followed}

target_kept : (kind : Kind) (q b : ℕ) (p : FitPace) → (after_coded kind q b p).target ≡ p.target
target_kept I q b p = refl
target_kept P q b p = refl

room_kept : (kind : Kind) (q b : ℕ) (p : FitPace) → (after_coded kind q b p).room ≡ p.room
room_kept I q b p = refl
room_kept P q b p = refl

level_poured : (kind : Kind) (q b : ℕ) (p : FitPace)
    → (after_coded kind q b p).level ≡ poured_into p.target p.level b
level_poured I q b p = refl
level_poured P q b p = refl

-- ---- the level

-- a full bucket takes 31, and so no more than the target
poured_low : (c : Bool) (t r l b most d w : ℕ) → ltb r l ≡ c → l ≤ r + most → b ≤ most
    → (cond c 31 (fitting d w) ≡ 31 → b ≤ t)
    → min (l + b) 18446744073709551615 - t ≤ r + most
poured_low true t r l b most d w e low few keeps =
    let fits = keeps refl in
    omega (arith, low, fits)
poured_low false t r l b most d w e low few keeps =
    let under = ltb-false r l e in
    omega (arith, under, few)

step_low : (most : ℕ) (p : FitPace) (x : PacedPicture) → p.level ≤ p.room + most → x.bytes ≤ most
    → (fitting_quant x.kind p ≡ 31 → x.bytes ≤ p.target)
    → (after_followed p x).level ≤ (after_followed p x).room + most
step_low most p x low few keeps =
    let l = level_poured x.kind (fitting_quant x.kind p) x.bytes p in
    let r = room_kept x.kind (fitting_quant x.kind p) x.bytes p in
    let h = poured_low (ltb p.room p.level) p.target p.room p.level x.bytes most
    (difficulty_of x.kind p) (bytes_wanted x.kind p) refl low few keeps in
    subst (λ (n : ℕ). n ≤ (after_followed p x).room + most) (sym l)
    (subst (λ (n : ℕ). poured_into p.target p.level x.bytes ≤ n + most) (sym r) h)

all_low : (most : ℕ) (p : FitPace) (xs : List PacedPicture) → p.level ≤ p.room + most → KeepsTo most p xs
    → (after_pictures p xs).level ≤ p.room + most
all_low most p [] low keeps = low
all_low most p (x ∷ xs) low keeps =
    let h = all_low most (after_followed p x) xs
    (step_low most p x low keeps.0 keeps.1) keeps.2 in
    subst (λ (n : ℕ). (after_pictures (after_followed p x) xs).level ≤ n + most)
    (room_kept x.kind (fitting_quant x.kind p) x.bytes p) h

pub level_stays : LevelStays
level_stays f target room most xs keeps =
    all_low most (pace_at_start f target room) xs (omega arith) keeps

-- ---- the sum

abbrev bytes_of : List PacedPicture → ℕ
bytes_of xs = sum (map (λ x. x.bytes) xs)

exceeds : (t r l b most : ℕ) → l ≤ r + most → b ≤ most → r ≤ 4294967295 → most ≤ 4294967295
    → l + b ≤ t + (min (l + b) 18446744073709551615 - t)
exceeds t r l b most low few i j = omega arith

step_exceeds : (most : ℕ) (p : FitPace) (x : PacedPicture) → p.level ≤ p.room + most → x.bytes ≤ most
    → p.room ≤ 4294967295 → most ≤ 4294967295 → p.level + x.bytes ≤ p.target + (after_followed p x).level
step_exceeds most p x low few i j =
    subst (λ (n : ℕ). p.level + x.bytes ≤ p.target + n)
    (sym (level_poured x.kind (fitting_quant x.kind p) x.bytes p))
    (exceeds p.target p.room p.level x.bytes most low few i j)

joined : (l b rest n t u level end : ℕ) → u ≡ t → l + b ≤ t + level → level + rest ≤ n * u + end
    → l + (b + rest) ≤ suc n * t + end
joined l b rest n t u level end same h i =
    let e : suc n * t ≡ n * t + t = grind arith in
    let k : level + rest ≤ n * t + end = subst (λ (m : ℕ). level + rest ≤ n * m + end) same i in
    omega (arith, e, h, k)

all_exceed : (most : ℕ) (p : FitPace) (xs : List PacedPicture) → p.level ≤ p.room + most
    → p.room ≤ 4294967295 → most ≤ 4294967295 → KeepsTo most p xs
    → p.level + bytes_of xs ≤ length xs * p.target + (after_pictures p xs).level
all_exceed most p [] low i j keeps = omega arith
all_exceed most p (x ∷ xs) low i j keeps =
    let q = after_followed p x in
    let room = room_kept x.kind (fitting_quant x.kind p) x.bytes p in
    let h = all_exceed most q xs (step_low most p x low keeps.0 keeps.1)
    (subst (λ (n : ℕ). n ≤ 4294967295) (sym room) i) j keeps.2 in
    subst (λ (n : ℕ). p.level + n ≤ length (x ∷ xs) * p.target + (after_pictures q xs).level)
    (sym (sum_by-cons (λ (n : ℕ). n) x.bytes (map (λ y. y.bytes) xs)))
    (joined p.level x.bytes (bytes_of xs) (length xs) p.target q.target q.level (after_pictures q xs).level
    (target_kept x.kind (fitting_quant x.kind p) x.bytes p) (step_exceeds most p x low keeps.0 i j) h)

-- ---- from any picture on

kept_after : (most : ℕ) (p : FitPace) (front back : List PacedPicture) → KeepsTo most p (front ++ back)
    → KeepsTo most (after_pictures p front) back
kept_after most p [] back keeps = keeps
kept_after most p (x ∷ front) back keeps = kept_after most (after_followed p x) front back keeps.2

kept_before : (most : ℕ) (p : FitPace) (front back : List PacedPicture) → KeepsTo most p (front ++ back)
    → KeepsTo most p front
kept_before most p [] back keeps = _
kept_before most p (x ∷ front) back keeps =
    (keeps.0, keeps.1, kept_before most (after_followed p x) front back keeps.2)

all_target : (p : FitPace) (xs : List PacedPicture) → (after_pictures p xs).target ≡ p.target
all_target p [] = refl
all_target p (x ∷ xs) =
    all_target (after_followed p x) xs ∙ target_kept x.kind (fitting_quant x.kind p) x.bytes p

all_room : (p : FitPace) (xs : List PacedPicture) → (after_pictures p xs).room ≡ p.room
all_room p [] = refl
all_room p (x ∷ xs) =
    all_room (after_followed p x) xs ∙ room_kept x.kind (fitting_quant x.kind p) x.bytes p

ends : (l s m n : ℕ) → l + s ≤ m + n → (r : ℕ) → n ≤ r → s ≤ m + r
ends l s m n h r i = omega arith

back_exceeds : (most : ℕ) (p : FitPace) (back : List PacedPicture) (target room : ℕ) → p.target ≡ target
    → p.room ≡ room → p.level ≤ p.room + most → p.room ≤ 4294967295 → most ≤ 4294967295
    → KeepsTo most p back → bytes_of back ≤ length back * target + (room + most)
back_exceeds most p back target room t r low i j keeps =
    subst (λ (n : ℕ). bytes_of back ≤ length back * n + (room + most)) t
    (subst (λ (n : ℕ). bytes_of back ≤ length back * p.target + (n + most)) r
    (ends p.level (bytes_of back) (length back * p.target) (after_pictures p back).level
    (all_exceed most p back low i j keeps) (p.room + most) (all_low most p back low keeps)))

pub sum_stays : SumStays
sum_stays f target room most front back i j keeps =
    let p = after_pictures (pace_at_start f target room) front in
    let r = all_room (pace_at_start f target room) front in
    let low = all_low most (pace_at_start f target room) front (omega arith)
    (kept_before most (pace_at_start f target room) front back keeps) in
    back_exceeds most p back target room (all_target (pace_at_start f target room) front) r
    (subst (λ (n : ℕ). p.level ≤ n + most) (sym r) low)
    (subst (λ (n : ℕ). n ≤ 4294967295) (sym r) i) j
    (kept_after most (pace_at_start f target room) front back keeps)
