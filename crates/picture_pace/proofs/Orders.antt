-- Paces of which one never gives a coarser quantiser.
use Rattle.std.proofs.Common.{◌≡◌, ℕ, ◌+◌, ◌-◌, ◌*◌, ◌/◌, ◌≤◌, min, max, Bool, true, false, cond, ltb, List, [], ◌∷◌, arith, true≢false, refl, sym, subst, div-mul-le_self, ltb-true, lt-ltb, le_refl}
use Rattle.std.proofs.lemmas.Nat.{le-div, mul-le}
use Rattle.std.specs.List.{AllZip}
use Rattle.h263_types.specs.declared.Kind.{Kind}
use Rattle.h263_types.specs.declared.Kind.TheVariants.{I, P}
use Rattle.h263_types.specs.Sizes.{mbs_of}
use Rattle.picture_pace.specs.declared.fit.FitPace.{FitPace}
use Rattle.picture_pace.specs.Fitting.{after_coded, bytes_to_save, bytes_spared, bytes_wanted, difficulty_of, fitting, fitting_quant, pace_at_start}
use Rattle.picture_pace.specs.Laws.{IsNoSmaller, LargerIsCoarser, MoreIsFiner, Shot, after_shots}

-- the first has at least as much to give, and owes no more
record IsFiner (p q : FitPace) : Type 0 where
  pub target : q.target ≤ p.target
  pub room : q.room ≤ p.room
  pub level : p.level ≤ q.level
  pub intra : p.intra ≤ q.intra
  pub predicted : p.predicted ≤ q.predicted
  pub excess : p.excess ≤ q.excess

-- ---- one quantiser

two_thirds : (a b : ℕ) → a ≤ b → 2 * a / 3 ≤ 2 * b / 3
two_thirds a b h = omega arith

half : (a b : ℕ) → a ≤ b → a / 2 ≤ b / 2
half a b h = omega arith

quarter : (a b : ℕ) → a ≤ b → a / 4 ≤ b / 4
quarter a b h = omega arith

join : (t u x y v w c d : ℕ) → t ≤ u → x ≤ y → w ≤ v → c ≤ d
    → max (max (t + x - v) c) 1 ≤ max (max (u + y - w) d) 1
join t u x y v w c d h i j k = omega arith

gap : (a b l m : ℕ) → a ≤ b → m ≤ l → a - l ≤ b - m
gap a b l m h i = omega arith

less_of : (a b c d : ℕ) → a ≤ c → b ≤ d → min a b ≤ min c d
less_of a b c d h i = omega arith

more_of : (a b c d : ℕ) → a ≤ c → b ≤ d → max a b ≤ max c d
more_of a b c d h i = omega arith

below_less : (p q : FitPace) → IsFiner p q → q.room / 2 - q.level ≤ p.room / 2 - p.level
below_less p q h = gap (q.room / 2) (p.room / 2) q.level p.level (half q.room p.room h.room) h.level

above_less : (p q : FitPace) → IsFiner p q → p.level - p.room / 2 ≤ q.level - q.room / 2
above_less p q h = gap p.level q.level (p.room / 2) (q.room / 2) h.level (half q.room p.room h.room)

spares_less : (kind : Kind) (p q : FitPace) → IsFiner p q → bytes_spared kind q ≤ bytes_spared kind p
spares_less I p q h = two_thirds (q.room / 2 - q.level) (p.room / 2 - p.level) (below_less p q h)
spares_less P p q h =
    half (min (q.room / 2 - q.level) (q.target - q.excess)) (min (p.room / 2 - p.level) (p.target - p.excess))
    (less_of (q.room / 2 - q.level) (q.target - q.excess) (p.room / 2 - p.level) (p.target - p.excess)
    (below_less p q h) (gap q.target p.target q.excess p.excess h.target h.excess))

owes_less : (kind : Kind) (p q : FitPace) → IsFiner p q → bytes_to_save kind p ≤ bytes_to_save kind q
owes_less I p q h = half (p.level - p.room / 2) (q.level - q.room / 2) (above_less p q h)
owes_less P p q h =
    half (max (p.level - p.room / 2) (p.excess - p.target)) (max (q.level - q.room / 2) (q.excess - q.target))
    (more_of (p.level - p.room / 2) (p.excess - p.target) (q.level - q.room / 2) (q.excess - q.target)
    (above_less p q h) (gap p.excess q.excess p.target q.target h.excess h.target))

wants_less : (kind : Kind) (p q : FitPace) → IsFiner p q → bytes_wanted kind q ≤ bytes_wanted kind p
wants_less kind p q h =
    join q.target p.target (bytes_spared kind q) (bytes_spared kind p) (bytes_to_save kind q) (bytes_to_save kind p)
    (q.target / 4) (p.target / 4) h.target (spares_less kind p q h) (owes_less kind p q h)
    (quarter q.target p.target h.target)

quotient : (a b v w : ℕ) → a ≤ b → 1 ≤ v → v ≤ w → a / w ≤ b / v
quotient a b v w h some more =
    let below = div-mul-le_self a w in
    let less = mul-le (a / w) v (a / w) w (omega arith) more in
    le-div (a / w) b v (omega (arith, some)) (omega (arith, below, less, h))

no_coarser : (b c : Bool) (d e v w : ℕ) → (b ≡ true → c ≡ true) → d ≤ e → 1 ≤ v → v ≤ w
    → cond b 31 (fitting d w) ≤ cond c 31 (fitting e v)
no_coarser true true d e v w same h some more = omega arith
no_coarser true false d e v w same h some more = absurd (true≢false (sym (same refl)))
no_coarser false true d e v w same h some more = omega arith
no_coarser false false d e v w same h some more =
    let q = quotient d e v w h some more in
    omega (arith, q)

difficulty_less : (kind : Kind) (p q : FitPace) → IsFiner p q → difficulty_of kind p ≤ difficulty_of kind q
difficulty_less I p q h = h.intra
difficulty_less P p q h = h.predicted

full : (p q : FitPace) → IsFiner p q → ltb p.room p.level ≡ true → ltb q.room q.level ≡ true
full p q h e =
    let over = ltb-true p.room p.level e in
    let a = h.room in
    let b = h.level in
    lt-ltb q.room q.level (omega (arith, over, a, b))

quant_less : (kind : Kind) (p q : FitPace) → IsFiner p q → fitting_quant kind p ≤ fitting_quant kind q
quant_less kind p q h =
    no_coarser (ltb p.room p.level) (ltb q.room q.level) (difficulty_of kind p) (difficulty_of kind q)
    (bytes_wanted kind q) (bytes_wanted kind p) (full p q h) (difficulty_less kind p q h) (omega arith)
    (wants_less kind p q h)

-- ---- a picture was coded

pours_less : (t u l m a b : ℕ) → u ≤ t → l ≤ m → a ≤ b
    → min (l + a) 18446744073709551615 - t ≤ min (m + b) 18446744073709551615 - u
pours_less t u l m a b h i j = omega arith

add_less : (a b c d : ℕ) → a ≤ c → b ≤ d → a + b ≤ c + d
add_less a b c d h i = omega arith

learns_less : (s t a b d e : ℕ) → s ≤ t → a ≤ b → d ≤ e → d / 2 + s * a / 2 ≤ e / 2 + t * b / 2
learns_less s t a b d e h i j =
    add_less (d / 2) (s * a / 2) (e / 2) (t * b / 2) (half d e j)
    (half (s * a) (t * b) (mul-le s a t b h i))

coded_less : (kind : Kind) (s t a b : ℕ) (p q : FitPace) → s ≤ t → a ≤ b → IsFiner p q
    → IsFiner (after_coded kind s a p) (after_coded kind t b q)
coded_less I s t a b p q h i f =
    record {
      target = f.target;
      room = f.room;
      level = pours_less p.target q.target p.level q.level a b f.target f.level i;
      intra = learns_less s t a b p.intra q.intra h i f.intra;
      predicted = f.predicted;
      excess = f.excess;
    }
coded_less P s t a b p q h i f =
    record {
      target = f.target;
      room = f.room;
      level = pours_less p.target q.target p.level q.level a b f.target f.level i;
      intra = f.intra;
      predicted = learns_less s t a b p.predicted q.predicted h i f.predicted;
      excess = pours_less p.target q.target p.excess q.excess a b f.target f.excess i;
    }

same_shots : (p q : FitPace) (xs : List Shot) → IsFiner p q → IsFiner (after_shots p xs) (after_shots q xs)
same_shots p q [] h = h
same_shots p q (x ∷ xs) h =
    same_shots (after_coded x.kind x.quant x.bytes p) (after_coded x.kind x.quant x.bytes q) xs
    (coded_less x.kind x.quant x.quant x.bytes x.bytes p q (omega arith) (omega arith) h)

other_shots : (p q : FitPace) (xs ys : List Shot) → AllZip IsNoSmaller xs ys → IsFiner p q
    → IsFiner (after_shots p xs) (after_shots q ys)
other_shots p q [] [] all h = h
other_shots p q [] (y ∷ ys) all h = absurd all
other_shots p q (x ∷ xs) [] all h = absurd all
other_shots p q (x ∷ xs) (y ∷ ys) all h =
    other_shots (after_coded x.kind x.quant x.bytes p) (after_coded y.kind y.quant y.bytes q) xs ys all.1
    (subst (λ (k : Kind). IsFiner (after_coded x.kind x.quant x.bytes p) (after_coded k y.quant y.bytes q))
    (all.0).kind
    (coded_less x.kind x.quant y.quant x.bytes y.bytes p q (all.0).quant (all.0).bytes h))

pub more_is_finer : MoreIsFiner
more_is_finer f target more room more_room xs kind h i =
    quant_less kind (after_shots (pace_at_start f more more_room) xs) (after_shots (pace_at_start f target room) xs)
    (same_shots (pace_at_start f more more_room) (pace_at_start f target room) xs
    (record {
      target = h;
      room = i;
      level = omega arith;
      intra = le_refl (200 * mbs_of f);
      predicted = le_refl (100 * mbs_of f);
      excess = omega arith;
    }))

pub larger_is_coarser : LargerIsCoarser
larger_is_coarser f target room xs ys kind all =
    quant_less kind (after_shots (pace_at_start f target room) xs) (after_shots (pace_at_start f target room) ys)
    (other_shots (pace_at_start f target room) (pace_at_start f target room) xs ys all
    (record {
      target = le_refl target;
      room = le_refl room;
      level = omega arith;
      intra = le_refl (200 * mbs_of f);
      predicted = le_refl (100 * mbs_of f);
      excess = omega arith;
    }))
