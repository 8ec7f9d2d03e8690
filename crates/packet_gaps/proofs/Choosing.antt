-- What is asked for.
use Rattle.std.proofs.Common.{◌≡◌, ℕ, ◌+◌, ◌-◌, ◌<◌, ◌≤◌, Bool, true, false, cond, eqb, leb, ltb, List, [], ◌∷◌, filter, Option, Some, None, refl, arith, ◌⊎◌, inl, inr, ⊎_elim}
use Rattle.std.specs.Prelude.{find}
use Rattle.std.specs.List.{AllByRecursion}
use Rattle.std.proofs.lemmas.Bool.{eqb-true, leb-false, leb-true, ltb-false, false≢true}
use Rattle.packet_gaps.specs.declared.gap.Gap.{Gap}
use Rattle.packet_gaps.specs.declared.moment.Moment.{Moment}
use Rattle.packet_gaps.specs.Asking.{moment_due, has_waited, is_in_time, is_behind_newest, is_in_nack, may_ask, gaps_told_by, gaps_asked_for}
use Rattle.packet_gaps.specs.Laws.{ComesInTime}

three : (a b c : Bool) → cond a (cond b c false) false ≡ true → (b ≡ true) × (c ≡ true)
three true true c e = (refl, e)
three true false c e = absurd (false≢true e)
three false b c e = absurd (false≢true e)

third : (a b c : Bool) → cond a false (cond b false c) ≡ true → c ≡ true
third false false c e = e
third false true c e = absurd (false≢true e)
third true b c e = absurd (false≢true e)

second : (a b : Bool) → cond a false b ≡ true → (a ≡ false) × (b ≡ true)
second true b e = absurd (false≢true e)
second false b e = (refl, e)

waited : (a b c : Bool) → cond a true (cond b false c) ≡ true → (a ≡ true) ⊎ ((b ≡ false) × (c ≡ true))
waited true b c e = inl refl
waited false false c e = inr (refl, e)
waited false true c e = absurd (false≢true e)

pub asked_parts : (m : Moment) (newest : ℕ) (g : Gap) → may_ask m newest g ≡ true
    → (has_waited m g ≡ true) × (is_in_time m g.picture ≡ true)
asked_parts m newest g e = three (is_behind_newest newest g) (has_waited m g) (is_in_time m g.picture) e

pub told_may : (m : Moment) (newest first : ℕ) (g : Gap) → is_in_nack m newest first g ≡ true
    → may_ask m newest g ≡ true
told_may m newest first g e = third (ltb g.number first) (ltb 16 (g.number - first)) (may_ask m newest g) e

comes : (m : Moment) (g : Gap) → is_in_time m g.picture ≡ true → ComesInTime m g
comes m g e =
    let p = second (ltb g.picture m.next) (leb (m.time + m.round_trip) (moment_due m g.picture)) e in
    record {
      unplayed = ltb-false g.picture m.next p.0;
      comes = leb-true (m.time + m.round_trip) (moment_due m g.picture) p.1;
    }

-- it was asked for once at most, and then a round trip ago, or longer
pub record Waited (m : Moment) (g : Gap) : Type 0 where
  pub once : g.asked < 2
  pub apart : 1 ≤ g.asked → m.round_trip ≤ m.time - g.last

pub has_not : (m : Moment) (g : Gap) → has_waited m g ≡ true → Waited m g
has_not m g e =
    ⊎_elim
    (λ (h : eqb g.asked 0 ≡ true).
    let n = eqb-true g.asked 0 h in
    let w : Waited m g = record {
      once = omega (arith, n);
      apart = λ o.
          let no : ⊥ = omega (arith, n, o) in
          absurd no;
    } in w)
    (λ (h : (leb 2 g.asked ≡ false) × (leb m.round_trip (m.time - g.last) ≡ true)).
    let w : Waited m g = record {
      once = leb-false 2 g.asked h.0;
      apart = λ o. leb-true m.round_trip (m.time - g.last) h.1;
    } in w)
    (waited (eqb g.asked 0) (leb 2 g.asked) (leb m.round_trip (m.time - g.last)) e)

-- ---- of those that are chosen

one_more : (P : Gap → Type 0) (b : Bool) (g : Gap) (gs : List Gap) → (b ≡ true → P g) → AllByRecursion P gs
    → AllByRecursion P (cond b (g ∷ gs) gs)
one_more P true g gs f h = (f refl, h)
one_more P false g gs f h = h

chosen : (P : Gap → Type 0) (p : Gap → Bool) → ((g : Gap) → p g ≡ true → P g) → (gs : List Gap)
    → AllByRecursion P (filter p gs)
chosen P p f [] = tt
chosen P p f (g ∷ gs) = one_more P (p g) g (filter p gs) (f g) (chosen P p f gs)

told_all : (P : Gap → Type 0) (m : Moment) (newest : ℕ) (gaps : List Gap)
    → ((g : Gap) → may_ask m newest g ≡ true → P g) → (o : Option Gap) → AllByRecursion P (gaps_told_by m newest gaps o)
told_all P m newest gaps f None = tt
told_all P m newest gaps f (Some x) =
    chosen P (is_in_nack m newest x.number) (λ g e. f g (told_may m newest x.number g e)) gaps

pub in_time : (m : Moment) (newest : Option ℕ) (gaps : List Gap)
    → AllByRecursion (ComesInTime m) (gaps_asked_for m newest gaps)
in_time m None gaps = tt
in_time m (Some newest) gaps =
    told_all (ComesInTime m) m newest gaps (λ g e. comes m g (asked_parts m newest g e).1)
    (find (may_ask m newest) gaps)
