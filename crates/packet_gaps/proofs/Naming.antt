-- What a field says, and that there is an end.
use Rattle.std.proofs.Common.{◌≡◌, ℕ, zero, suc, ◌+◌, ◌-◌, ◌*◌, ◌/◌, ◌%◌, ◌<◌, ◌≤◌, min, Bool, true, false, cond, eqb, leb, ltb, ◌||◌, List, [], ◌∷◌, length, map, filter, Option, Some, None, refl, ap, sym, arith, ◌∙◌, ⊎_elim}
use Rattle.std.specs.Prelude.{find, is_some, MatchOption}
use Rattle.std.specs.List.{AllByRecursion}
use Rattle.std.proofs.lemmas.Bool.{cases_Bool, cond_both, eq-eqb, eqb-true, le-ltb, ltb-false, lt-leb, ne_eqb, false≢true, or_left, or_right}
use Rattle.packet_gaps.specs.declared.gap.Gap.{Gap}
use Rattle.packet_gaps.specs.declared.moment.Moment.{Moment}
use Rattle.packet_gaps.specs.Asking.{after_asking, asked_again, mask_bit, field_of, has_waited, is_asked, is_in_time, is_behind_newest, is_in_nack, mask_of, may_ask, nack_of, gaps_told_by, told_from, gaps_asked_for, when_told}
use Rattle.packet_gaps.specs.Kept.{has_number}
use Rattle.packet_gaps.specs.Laws.{NackNames, bit_at}

-- ---- bits

lowest : (b : Bool) (n : ℕ) → bit_at (mask_bit b + 2 * n) 0 ≡ b
lowest true n =
    let e : (1 + 2 * n) % 2 ≡ 1 = omega arith in
    eq-eqb ((1 + 2 * n) % 2) 1 e
lowest false n = ne_eqb ((0 + 2 * n) % 2) 1 (λ e. omega (arith, e))

halved : (b : Bool) (n : ℕ) → (mask_bit b + 2 * n) / 2 ≡ n
halved true n = omega arith
halved false n = omega arith

bits : (is : ℕ → Bool) (n i k : ℕ) → k < n → bit_at (mask_of is n i) k ≡ is (i + k)
bits is zero i k h =
    let no : ⊥ = omega (arith, h) in
    absurd no
bits is (suc n) i zero h =
    let e : i ≡ i + 0 = omega arith in
    lowest (is i) (mask_of is n (i + 1)) ∙ ap is e
bits is (suc n) i (suc k) h =
    let e : i + 1 + k ≡ i + suc k = omega arith in
    ap (λ (j : ℕ). bit_at j k) (halved (is i) (mask_of is n (i + 1)))
    ∙ bits is n (i + 1) k (omega (arith, h)) ∙ ap is e

-- ---- those that are told

told_at : (m : Moment) (newest first : ℕ) (g : Gap) → first ≤ g.number → g.number ≤ first + 16
    → is_in_nack m newest first g ≡ may_ask m newest g
told_at m newest first g h i =
    ap (λ (b : Bool). cond b false (cond (ltb 16 (g.number - first)) false (may_ask m newest g)))
    (le-ltb g.number first h)
    ∙ ap (λ (b : Bool). cond b false (may_ask m newest g)) (le-ltb 16 (g.number - first) (omega (arith, h, i)))

one_any : (q t a rest more : Bool) → (q ≡ true → t ≡ a) → rest ≡ more
    → (cond q a false || rest) ≡ cond t (q || more) more
one_any true true a rest more f e = ap (λ (b : Bool). b || rest) (sym (f refl))
one_any true false a rest more f e = ap (λ (b : Bool). b || rest) (sym (f refl)) ∙ e
one_any false true a rest more f e = e
one_any false false a rest more f e = e

has_cond : (number : ℕ) (t : Bool) (g : Gap) (gs : List Gap)
    → cond t (eqb g.number number || has_number number gs) (has_number number gs)
    ≡ has_number number (cond t (g ∷ gs) gs)
has_cond number true g gs = refl
has_cond number false g gs = refl

asked_is_told : (m : Moment) (newest first i : ℕ) (gs : List Gap) → i ≤ 16
    → is_asked m newest gs first i ≡ has_number (first + i) (filter (is_in_nack m newest first) gs)
asked_is_told m newest first i [] h = refl
asked_is_told m newest first i (g ∷ gs) h =
    one_any (eqb g.number (first + i)) (is_in_nack m newest first g) (may_ask m newest g) (is_asked m newest gs first i)
    (has_number (first + i) (filter (is_in_nack m newest first) gs))
    (λ e.
    let d = eqb-true g.number (first + i) e in
    told_at m newest first g (omega (arith, d)) (omega (arith, d, h)))
    (asked_is_told m newest first i gs h)
    ∙ has_cond (first + i) (is_in_nack m newest first g) g (filter (is_in_nack m newest first) gs)

-- ---- the first one

same_some : {x y : Gap} → Some x ≡ Some y → x ≡ y
same_some {x} {y} e = ap (λ (o : Option Gap). cond_gap o x) e
  where
    cond_gap : Option Gap → Gap → Gap
    cond_gap None g = g
    cond_gap (Some h) g = h

first_told : (m : Moment) (newest : ℕ) (x : Gap) (gs : List Gap) → find (may_ask m newest) gs ≡ Some x
    → has_number x.number (filter (is_in_nack m newest x.number) gs) ≡ true
first_told m newest x [] e = absurd (false≢true (ap is_some e))
first_told m newest x (g ∷ gs) e =
    sym (has_cond x.number (is_in_nack m newest x.number g) g (filter (is_in_nack m newest x.number) gs))
    ∙ ⊎_elim
    (λ (t : may_ask m newest g ≡ true).
    let s = same_some (sym (ap (λ (b : Bool). cond b (Some g) (find (may_ask m newest) gs)) t) ∙ e) in
    let n : g.number ≡ x.number = ap (λ (y : Gap). y.number) s in
    ap (λ (b : Bool). cond b (eqb g.number x.number || has_number x.number (filter (is_in_nack m newest x.number) gs))
    (has_number x.number (filter (is_in_nack m newest x.number) gs)))
    (told_at m newest x.number g (omega (arith, n)) (omega (arith, n)) ∙ t)
    ∙ or_left (eqb g.number x.number) (has_number x.number (filter (is_in_nack m newest x.number) gs))
    (eq-eqb g.number x.number n))
    (λ (t : may_ask m newest g ≡ false).
    either (is_in_nack m newest x.number g) (eqb g.number x.number)
    (has_number x.number (filter (is_in_nack m newest x.number) gs))
    (first_told m newest x gs (sym (ap (λ (b : Bool). cond b (Some g) (find (may_ask m newest) gs)) t) ∙ e)))
    (cases_Bool (may_ask m newest g))
  where
    either : (b c d : Bool) → d ≡ true → cond b (c || d) d ≡ true
    either true c d e = or_right c d e
    either false c d e = e

near : (m : Moment) (newest first : ℕ) (gs : List Gap)
    → AllByRecursion (λ g. (first ≤ g.number) × (g.number ≤ first + 16)) (filter (is_in_nack m newest first) gs)
near m newest first [] = tt
near m newest first (g ∷ gs) =
    cond_both (is_in_nack m newest first g) (g ∷ filter (is_in_nack m newest first) gs)
    (filter (is_in_nack m newest first) gs)
    (AllByRecursion (λ g. (first ≤ g.number) × (g.number ≤ first + 16)))
    (λ e. (
      within (ltb g.number first) (ltb 16 (g.number - first)) (may_ask m newest g) refl refl e,
      near m newest first gs,
    ))
    (λ e. near m newest first gs)
  where
    within : (a b c : Bool) → ltb g.number first ≡ a → ltb 16 (g.number - first) ≡ b
        → cond a false (cond b false c) ≡ true → (first ≤ g.number) × (g.number ≤ first + 16)
    within true b c d f e = absurd (false≢true e)
    within false true c d f e = absurd (false≢true e)
    within false false c d f e =
        let low = ltb-false g.number first d in
        let high = ltb-false 16 (g.number - first) f in
        (low, omega (arith, low, high))

named_by : (m : Moment) (newest : ℕ) (gs : List Gap) (o : Option Gap) → find (may_ask m newest) gs ≡ o
    → MatchOption (field_of m newest gs o) (gaps_told_by m newest gs o ≡ [])
    (λ n. (first : ℕ) × NackNames n first (gaps_told_by m newest gs o))
named_by m newest gs None e = refl
named_by m newest gs (Some x) e = (
  x.number,
  record {
    packet = refl;
    itself = first_told m newest x gs e;
    following = λ k h.
        let d : x.number + (1 + k) ≡ x.number + 1 + k = omega arith in
        bits (is_asked m newest gs x.number) 16 1 k h
        ∙ asked_is_told m newest x.number (1 + k) gs (omega (arith, h))
        ∙ ap (λ (j : ℕ). has_number j (filter (is_in_nack m newest x.number) gs)) d;
    near = near m newest x.number gs;
  },
)

pub named : (m : Moment) (newest : Option ℕ) (gs : List Gap)
    → MatchOption (nack_of m newest gs) (gaps_asked_for m newest gs ≡ [])
    (λ n. (first : ℕ) × NackNames n first (gaps_asked_for m newest gs))
named m None gs = refl
named m (Some newest) gs = named_by m newest gs (find (may_ask m newest) gs) refl

-- ---- the end

not_waited : (a b c : Bool) → a ≡ false → c ≡ false → cond a true (cond b false c) ≡ false
not_waited true b c e f = absurd (false≢true (sym e))
not_waited false true c e f = refl
not_waited false false c e f = f

not_asked : (a b c : Bool) → b ≡ false → cond a (cond b c false) false ≡ false
not_asked true true c e = absurd (false≢true (sym e))
not_asked true false c e = refl
not_asked false b c e = refl

just_asked : (m : Moment) (newest : ℕ) (g : Gap) → 1 ≤ m.round_trip → may_ask m newest (asked_again m.time g) ≡ false
just_asked m newest g h =
    not_asked (is_behind_newest newest (asked_again m.time g)) (has_waited m (asked_again m.time g))
    (is_in_time m g.picture)
    (not_waited (eqb (min (g.asked + 1) 255) 0) (leb 2 (min (g.asked + 1) 255)) (leb m.round_trip (m.time - m.time))
    (ne_eqb (min (g.asked + 1) 255) 0 (λ e. omega (arith, e)))
    (lt-leb m.round_trip (m.time - m.time) (omega (arith, h))))

-- none is gained
not_more : (m : Moment) (newest first : ℕ) (g : Gap) → 1 ≤ m.round_trip → may_ask m newest g ≡ false
    → may_ask m newest (when_told m newest first g) ≡ false
not_more m newest first g h e =
    cond_both (is_in_nack m newest first g) (asked_again m.time g) g (λ x. may_ask m newest x ≡ false)
    (λ t. just_asked m newest g h) (λ t. e)

less_by : (p : Gap → Bool) (a b : Bool) (x y : Gap) (xs ys : List Gap) → (b ≡ false → a ≡ false)
    → length xs ≤ length ys → length (cond a (x ∷ xs) xs) ≤ length (cond b (y ∷ ys) ys)
less_by p true true x y xs ys f h = omega (arith, h)
less_by p true false x y xs ys f h = absurd (false≢true (sym (f refl)))
less_by p false true x y xs ys f h = omega (arith, h)
less_by p false false x y xs ys f h = h

no_more : (m : Moment) (newest first : ℕ) (gs : List Gap) → 1 ≤ m.round_trip
    → length (filter (may_ask m newest) (map (when_told m newest first) gs)) ≤ length (filter (may_ask m newest) gs)
no_more m newest first [] h = omega arith
no_more m newest first (g ∷ gs) h =
    less_by (may_ask m newest) (may_ask m newest (when_told m newest first g)) (may_ask m newest g)
    (when_told m newest first g) g (filter (may_ask m newest) (map (when_told m newest first) gs))
    (filter (may_ask m newest) gs) (not_more m newest first g h) (no_more m newest first gs h)

fewer : (m : Moment) (newest : ℕ) (x : Gap) (gs : List Gap) → 1 ≤ m.round_trip → find (may_ask m newest) gs ≡ Some x
    → length (filter (may_ask m newest) (map (when_told m newest x.number) gs)) < length (filter (may_ask m newest) gs)
fewer m newest x [] h e = absurd (false≢true (ap is_some e))
fewer m newest x (g ∷ gs) h e =
    let more = no_more m newest x.number gs h in
    ⊎_elim
    (λ (t : may_ask m newest g ≡ true).
    let s = same_some (sym (ap (λ (b : Bool). cond b (Some g) (find (may_ask m newest) gs)) t) ∙ e) in
    let n : g.number ≡ x.number = ap (λ (y : Gap). y.number) s in
    let told = told_at m newest x.number g (omega (arith, n)) (omega (arith, n)) ∙ t in
    both (may_ask m newest (when_told m newest x.number g)) (may_ask m newest g)
    (when_told m newest x.number g) g (filter (may_ask m newest) (map (when_told m newest x.number) gs))
    (filter (may_ask m newest) gs)
    (ap (λ (b : Bool). may_ask m newest (cond b (asked_again m.time g) g)) told ∙ just_asked m newest g h) t more)
    (λ (t : may_ask m newest g ≡ false).
    neither (may_ask m newest (when_told m newest x.number g)) (may_ask m newest g)
    (when_told m newest x.number g) g (filter (may_ask m newest) (map (when_told m newest x.number) gs))
    (filter (may_ask m newest) gs)
    (not_more m newest x.number g h t) t
    (fewer m newest x gs h (sym (ap (λ (b : Bool). cond b (Some g) (find (may_ask m newest) gs)) t) ∙ e)))
    (cases_Bool (may_ask m newest g))
  where
    both : (a b : Bool) (y z : Gap) (ys zs : List Gap) → a ≡ false → b ≡ true → length ys ≤ length zs
        → length (cond a (y ∷ ys) ys) < length (cond b (z ∷ zs) zs)
    both false true y z ys zs e f h = omega (arith, h)
    both true b y z ys zs e f h = absurd (false≢true (sym e))
    both a false y z ys zs e f h = absurd (false≢true f)

    neither : (a b : Bool) (y z : Gap) (ys zs : List Gap) → a ≡ false → b ≡ false → length ys < length zs
        → length (cond a (y ∷ ys) ys) < length (cond b (z ∷ zs) zs)
    neither false false y z ys zs e f h = h
    neither true b y z ys zs e f h = absurd (false≢true (sym e))
    neither a true y z ys zs e f h = absurd (false≢true (sym f))

ends_by : (m : Moment) (newest : ℕ) (gs : List Gap) (o : Option Gap) → find (may_ask m newest) gs ≡ o → 1 ≤ m.round_trip
    → MatchOption (field_of m newest gs o) (Unit {0})
    (λ n. length (filter (may_ask m newest) (told_from m newest gs o)) < length (filter (may_ask m newest) gs))
ends_by m newest gs None e h = tt
ends_by m newest gs (Some x) e h = fewer m newest x gs h e

pub ends : (m : Moment) (newest : ℕ) (gs : List Gap) → 1 ≤ m.round_trip
    → MatchOption (nack_of m (Some newest) gs) (Unit {0})
    (λ n. length (filter (may_ask m newest) (after_asking m (Some newest) gs)) < length (filter (may_ask m newest) gs))
ends m newest gs h = ends_by m newest gs (find (may_ask m newest) gs) refl h
