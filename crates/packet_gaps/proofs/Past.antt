-- What is kept of what happened.
use Rattle.std.proofs.Common.{◌≡◌, ℕ, zero, suc, ◌+◌, ◌-◌, ◌<◌, ◌≤◌, not, Bool, true, false, cond, eqb, leb, ltb, ◌||◌, List, [], ◌∷◌, ◌++◌, length, map, filter, drop, Option, Some, None, refl, ap, sym, subst, arith, ◌∙◌, ⊎_elim}
use Rattle.std.specs.Prelude.{find}
use Rattle.std.specs.List.{AllByRecursion, list_any}
use Rattle.std.proofs.lemmas.Bool.{cases_Bool, cases_lt, cond_both, eq-eqb, eqb-true, le-ltb, lt-ltb, or_right, or_left, false≢true}
use Rattle.std.proofs.lemmas.List.{length-map}
use Rattle.packet_gaps.specs.declared.gap.Gap.{Gap}
use Rattle.packet_gaps.specs.declared.moment.Moment.{Moment}
use Rattle.packet_gaps.specs.Asking.{after_asking, asked_again, is_in_nack, may_ask, told_from, when_told}
use Rattle.packet_gaps.specs.Missing.{after_number, gaps_after_packet, gap_of, last_gaps, newest_number_after, newest_after_packet, counted_number, numbers_from}
use Rattle.packet_gaps.specs.Kept.{GapEvent, Came, Played, Asked, came_of, kept_gaps_after, counted_on}
use Rattle.packet_gaps.specs.Laws.{IsMissing}

-- ---- lists

module _ (P : Gap → Type 0) where
  filter_one : (p : Gap → Bool) (b : Bool) (g : Gap) (gs : List Gap) → P g → AllByRecursion P gs
      → AllByRecursion P (cond b (g ∷ gs) gs)
  filter_one p true g gs h i = (h, i)
  filter_one p false g gs h i = i

  pub all_filter : (p : Gap → Bool) (gs : List Gap) → AllByRecursion P gs → AllByRecursion P (filter p gs)
  all_filter p [] h = tt
  all_filter p (g ∷ gs) h = filter_one p (p g) g (filter p gs) h.0 (all_filter p gs h.1)

  pub all_drop : (n : ℕ) (gs : List Gap) → AllByRecursion P gs → AllByRecursion P (drop n gs)
  all_drop zero gs h = h
  all_drop (suc n) [] h = tt
  all_drop (suc n) (g ∷ gs) h = all_drop n gs h.1

  pub all_append : (gs hs : List Gap) → AllByRecursion P gs → AllByRecursion P hs → AllByRecursion P (gs ++ hs)
  all_append [] hs h i = i
  all_append (g ∷ gs) hs h i = (h.0, all_append gs hs h.1 i)

  pub all_map : (f : Gap → Gap) → ((g : Gap) → P g → P (f g)) → (gs : List Gap) → AllByRecursion P gs
      → AllByRecursion P (map f gs)
  all_map f s [] h = tt
  all_map f s (g ∷ gs) h = (s g h.0, all_map f s gs h.1)

  -- numbers from one on
  pub all_from : (f : ℕ → Gap) (first n : ℕ) → ((k : ℕ) → first ≤ k → k < first + n → P (f k))
      → AllByRecursion P (map f (numbers_from first n))
  all_from f first zero s = tt
  all_from f first (suc n) s = (
    s first (omega arith) (omega arith),
    all_from f (first + 1) n (λ k h i. s k (omega arith) (omega arith)),
  )

pub all_with : (P Q : Gap → Type 0) → ((g : Gap) → P g → Q g) → (gs : List Gap) → AllByRecursion P gs
    → AllByRecursion Q gs
all_with P Q f [] h = tt
all_with P Q f (g ∷ gs) h = (f g h.0, all_with P Q f gs h.1)

-- those that are chosen are, and were what all were
pub all_chosen : (P Q : Gap → Type 0) (p : Gap → Bool) → ((g : Gap) → P g → p g ≡ true → Q g) → (gs : List Gap)
    → AllByRecursion P gs → AllByRecursion Q (filter p gs)
all_chosen P Q p f [] h = tt
all_chosen P Q p f (g ∷ gs) h =
    cond_both (p g) (g ∷ filter p gs) (filter p gs) (AllByRecursion Q)
    (λ e. (f g h.0 e, all_chosen P Q p f gs h.1)) (λ e. all_chosen P Q p f gs h.1)

-- ---- how many there are

few_filter : (p : Gap → Bool) (gs : List Gap) → length (filter p gs) ≤ length gs
few_filter p [] = omega arith
few_filter p (g ∷ gs) =
    let h = few_filter p gs in
    cond_both (p g) (g ∷ filter p gs) (filter p gs) (λ l. length l ≤ length (g ∷ gs)) (λ e. omega (arith, h))
    (λ e. omega (arith, h))

length_drop : (n : ℕ) (gs : List Gap) → length (drop n gs) ≡ length gs - n
length_drop zero gs = omega arith
length_drop (suc n) [] = omega arith
length_drop (suc n) (g ∷ gs) =
    let h = length_drop n gs in
    omega (arith, h)

few_last : (gs : List Gap) → length (last_gaps 64 gs) ≤ 64
few_last gs =
    let h = length_drop (length gs - 64) gs in
    omega (arith, h)

few_after : (newest number picture : ℕ) (gs : List Gap) → length gs ≤ 64
    → length (after_number newest number picture gs) ≤ 64
few_after newest number picture gs h =
    let p = λ (g : Gap). not (eqb g.number number) in
    let xs = gs ++ map (gap_of picture) (numbers_from (newest + 1) (number - newest - 1)) in
    let f = few_filter p gs in
    cond_both (ltb newest number) (last_gaps 64 xs) (filter p gs) (λ l. length l ≤ 64) (λ e. few_last xs)
    (λ e. omega (arith, f, h))

few_packet : (o : Option ℕ) (sequence picture : ℕ) (gs : List Gap) → length gs ≤ 64
    → length (gaps_after_packet o sequence picture gs) ≤ 64
few_packet None sequence picture gs h = h
few_packet (Some newest) sequence picture gs h = few_after newest (counted_number newest sequence) picture gs h

few_told : (m : Moment) (newest : ℕ) (gs : List Gap) (o : Option Gap) → length gs ≤ 64
    → length (told_from m newest gs o) ≤ 64
few_told m newest gs None h = h
few_told m newest gs (Some x) h =
    let e = length-map gs (when_told m newest x.number) in
    omega (arith, e, h)

few_asking : (m : Moment) (o : Option ℕ) (gs : List Gap) → length gs ≤ 64 → length (after_asking m o gs) ≤ 64
few_asking m None gs h = h
few_asking m (Some newest) gs h = few_told m newest gs (find (may_ask m newest) gs) h

pub few : (past : List GapEvent) → length (kept_gaps_after past).gaps ≤ 64
few [] = omega arith
few (Came sequence picture ∷ past) = few_packet (kept_gaps_after past).newest sequence picture
    (kept_gaps_after past).gaps (few past)
few (Played next ∷ past) =
    let f = few_filter (λ (g : Gap). leb next g.picture) (kept_gaps_after past).gaps in
    let h = few past in
    omega (arith, f, h)
few (Asked m ∷ past) = few_asking m (kept_gaps_after past).newest (kept_gaps_after past).gaps (few past)

-- ---- what is missing

-- a number that didn't come, before the newest
record Between (came : List ℕ) (newest number : ℕ) : Type 0 where
  is : IsMissing came number
  below : number < newest

-- the newest packet came, and no number is greater
record IsNewest (came : List ℕ) (newest : ℕ) : Type 0 where
  is : list_any (λ n. eqb n newest) came ≡ true
  most : AllByRecursion (λ n. n ≤ newest) came

abbrev Inside : List ℕ → Option ℕ → List Gap → Type 0
Inside came None gaps = (gaps ≡ []) × (came ≡ [])
Inside came (Some newest) gaps =
    IsNewest came newest × AllByRecursion (λ g. Between came newest g.number) gaps

any_since : (p q : ℕ → Bool) → ((n : ℕ) → p n ≡ true → q n ≡ true) → (ns : List ℕ) → list_any p ns ≡ true
    → list_any q ns ≡ true
any_since p q f [] e = e
any_since p q f (n ∷ ns) e =
    ⊎_elim (λ (t : p n ≡ true). or_left (q n) (list_any q ns) (f n t))
    (λ (t : p n ≡ false).
    or_right (q n) (list_any q ns) (any_since p q f ns (sym (ap (λ (b : Bool). b || list_any p ns) t) ∙ e)))
    (cases_Bool (p n))

all_since : (P Q : ℕ → Type 0) → ((n : ℕ) → P n → Q n) → (ns : List ℕ) → AllByRecursion P ns → AllByRecursion Q ns
all_since P Q f [] h = tt
all_since P Q f (n ∷ ns) h = (f n h.0, all_since P Q f ns h.1)

-- one more packet, with another number
still : (came : List ℕ) (k number : ℕ) → (k ≡ number → ⊥) → IsMissing came number → IsMissing (k ∷ came) number
still came k number other m =
    record {
      absent = (other, m.absent);
      one_before = or_right (ltb k number) (list_any (λ n. ltb n number) came) m.one_before;
      one_after = or_right (ltb number k) (list_any (λ n. ltb number n) came) m.one_after;
    }

-- between the newest and one ahead of it
new_one : (came : List ℕ) (newest k number : ℕ) → IsNewest came newest → newest < number → number < k
    → IsMissing (k ∷ came) number
new_one came newest k number i h j =
    record {
      absent = (
        λ e. omega arith,
        all_since (λ n. n ≤ newest) (λ n. n ≡ number → ⊥) (λ n s e. omega arith) came i.most,
      );
      one_before = or_right (ltb k number) (list_any (λ n. ltb n number) came)
          (any_since (λ n. eqb n newest) (λ n. ltb n number)
          (λ n e.
          let s = eqb-true n newest e in
          lt-ltb n number (omega (arith, s, h))) came i.is);
      one_after = or_left (ltb number k) (list_any (λ n. ltb number n) came) (lt-ltb number k j);
    }

newer : (came : List ℕ) (newest k : ℕ) → IsNewest came newest → newest < k → IsNewest (k ∷ came) k
newer came newest k i h =
    record {
      is = or_left (eqb k k) (list_any (λ n. eqb n k) came) (eq-eqb k k refl);
      most = (omega arith, all_since (λ n. n ≤ newest) (λ n. n ≤ k) (λ n s. omega arith) came i.most);
    }

same_newest : (came : List ℕ) (newest k : ℕ) → IsNewest came newest → k ≤ newest → IsNewest (k ∷ came) newest
same_newest came newest k i h =
    record {
      is = or_right (eqb k newest) (list_any (λ n. eqb n newest) came) i.is;
      most = (h, i.most);
    }

not_same : (a b : ℕ) → not (eqb a b) ≡ true → b ≡ a → ⊥
not_same a b e f =
    let t : eqb a b ≡ true = eq-eqb a b (sym f) in
    let s : false ≡ true = sym (ap not t) ∙ e in
    false≢true s

ahead : (came : List ℕ) (newest k picture : ℕ) (gs : List Gap) → IsNewest came newest → newest < k
    → AllByRecursion (λ g. Between came newest g.number) gs
    → AllByRecursion (λ g. Between (k ∷ came) k g.number)
    (last_gaps 64 (gs ++ map (gap_of picture) (numbers_from (newest + 1) (k - newest - 1))))
ahead came newest k picture gs i h s =
    let P = λ (g : Gap). Between (k ∷ came) k g.number in
    let new = map (gap_of picture) (numbers_from (newest + 1) (k - newest - 1)) in
    all_drop P (length (gs ++ new) - 64) (gs ++ new)
    (all_append P gs new
    (all_with (λ g. Between came newest g.number) P (λ g b. older g b) gs s)
    (all_from P (gap_of picture) (newest + 1) (k - newest - 1) (λ n j l. newly n (omega arith) (omega arith))))
  where
    older : (g : Gap) → Between came newest g.number → Between (k ∷ came) k g.number
    older g b =
        let l = b.below in
        record { is = still came k g.number (λ e. omega (arith, l, h, e)) b.is; below = omega (arith, l, h) }

    newly : (n : ℕ) → newest < n → n < k → Between (k ∷ came) k n
    newly n j l = record { is = new_one came newest k n i j l; below = l }

behind : (came : List ℕ) (newest k : ℕ) (gs : List Gap)
    → AllByRecursion (λ g. Between came newest g.number) gs
    → AllByRecursion (λ g. Between (k ∷ came) newest g.number) (filter (λ g. not (eqb g.number k)) gs)
behind came newest k gs s =
    all_chosen (λ g. Between came newest g.number) (λ g. Between (k ∷ came) newest g.number)
    (λ g. not (eqb g.number k))
    (λ g b e. other g b e) gs s
  where
    other : (g : Gap) → Between came newest g.number → not (eqb g.number k) ≡ true
        → Between (k ∷ came) newest g.number
    other g b e = record { is = still came k g.number (not_same g.number k e) b.is; below = b.below }

by_number : (came : List ℕ) (newest k picture : ℕ) (gs : List Gap) → Inside came (Some newest) gs
    → Inside (k ∷ came) (Some (newest_number_after newest k)) (after_number newest k picture gs)
by_number came newest k picture gs s =
    ⊎_elim
    (λ (h : newest < k).
    let t = lt-ltb newest k h in
    subst (λ (b : Bool). IsNewest (k ∷ came) (cond b k newest)
    × AllByRecursion (λ g. Between (k ∷ came) (cond b k newest) g.number)
    (cond b (last_gaps 64 (gs ++ map (gap_of picture) (numbers_from (newest + 1) (k - newest - 1))))
    (filter (λ g. not (eqb g.number k)) gs))) (sym t)
    (newer came newest k s.0 h, ahead came newest k picture gs s.0 h s.1))
    (λ (h : k ≤ newest).
    let t = le-ltb newest k h in
    subst (λ (b : Bool). IsNewest (k ∷ came) (cond b k newest)
    × AllByRecursion (λ g. Between (k ∷ came) (cond b k newest) g.number)
    (cond b (last_gaps 64 (gs ++ map (gap_of picture) (numbers_from (newest + 1) (k - newest - 1))))
    (filter (λ g. not (eqb g.number k)) gs))) (sym t)
    (same_newest came newest k s.0 h, behind came newest k gs s.1))
    (cases_lt newest k)

none_before : (came : List ℕ) (k : ℕ) (gs : List Gap) → gs ≡ [] → came ≡ [] → Inside (k ∷ came) (Some k) gs
none_before came k gs e f = (
  record {
    is = or_left (eqb k k) (list_any (λ n. eqb n k) came) (eq-eqb k k refl);
    most = (omega arith, subst (AllByRecursion (λ n. n ≤ k)) (sym f) tt);
  },
  subst (AllByRecursion (λ g. Between (k ∷ came) k g.number)) (sym e) tt,
)

by_packet : (came : List ℕ) (o : Option ℕ) (sequence picture : ℕ) (gs : List Gap) → Inside came o gs
    → Inside (counted_on o sequence ∷ came) (newest_after_packet o sequence) (gaps_after_packet o sequence picture gs)
by_packet came None sequence picture gs s = none_before came (65536 + sequence) gs s.0 s.1
by_packet came (Some newest) sequence picture gs s = by_number came newest (counted_number newest sequence) picture gs s

by_filter : (came : List ℕ) (o : Option ℕ) (p : Gap → Bool) (gs : List Gap) → Inside came o gs
    → Inside came o (filter p gs)
by_filter came None p gs s = (ap (filter p) s.0, s.1)
by_filter came (Some newest) p gs s = (s.0, all_filter (λ g. Between came newest g.number) p gs s.1)

pub same_number : (m : Moment) (newest first : ℕ) (g : Gap) → (when_told m newest first g).number ≡ g.number
same_number m newest first g =
    cond_both (is_in_nack m newest first g) (asked_again m.time g) g (λ (x : Gap). x.number ≡ g.number) (λ e. refl)
    (λ e. refl)

by_told : (came : List ℕ) (m : Moment) (newest : ℕ) (gs : List Gap) (o : Option Gap) → Inside came (Some newest) gs
    → Inside came (Some newest) (told_from m newest gs o)
by_told came m newest gs None s = s
by_told came m newest gs (Some x) s = (
  s.0,
  all_map (λ g. Between came newest g.number) (when_told m newest x.number)
      (λ g b. subst (Between came newest) (sym (same_number m newest x.number g)) b) gs s.1,
)

by_asking : (came : List ℕ) (m : Moment) (o : Option ℕ) (gs : List Gap) → Inside came o gs
    → Inside came o (after_asking m o gs)
by_asking came m None gs s = s
by_asking came m (Some newest) gs s = by_told came m newest gs (find (may_ask m newest) gs) s

inside : (past : List GapEvent) → Inside (came_of past) (kept_gaps_after past).newest (kept_gaps_after past).gaps
inside [] = (refl, refl)
inside (Came sequence picture ∷ past) =
    by_packet (came_of past) (kept_gaps_after past).newest sequence picture (kept_gaps_after past).gaps (inside past)
inside (Played next ∷ past) =
    by_filter (came_of past) (kept_gaps_after past).newest (λ g. leb next g.picture) (kept_gaps_after past).gaps
    (inside past)
inside (Asked m ∷ past) = by_asking (came_of past) m (kept_gaps_after past).newest (kept_gaps_after past).gaps
    (inside past)

missing_in : (came : List ℕ) (o : Option ℕ) (gs : List Gap) → Inside came o gs
    → AllByRecursion (λ g. IsMissing came g.number) gs
missing_in came None gs s = subst (AllByRecursion (λ g. IsMissing came g.number)) (sym s.0) tt
missing_in came (Some newest) gs s =
    all_with (λ g. Between came newest g.number) (λ g. IsMissing came g.number) (λ g b. b.is) gs s.1

pub missing : (past : List GapEvent)
    → AllByRecursion (λ g. IsMissing (came_of past) g.number) (kept_gaps_after past).gaps
missing past = missing_in (came_of past) (kept_gaps_after past).newest (kept_gaps_after past).gaps (inside past)

abbrev pub BelowIn : Option ℕ → List Gap → Type 0
BelowIn None gs = gs ≡ []
BelowIn (Some newest) gs = AllByRecursion (λ g. g.number < newest) gs

below_in : (came : List ℕ) (o : Option ℕ) (gs : List Gap) → Inside came o gs → BelowIn o gs
below_in came None gs s = s.0
below_in came (Some newest) gs s =
    all_with (λ g. Between came newest g.number) (λ g. g.number < newest) (λ g b. b.below) gs s.1

pub below_newest : (past : List GapEvent) → BelowIn (kept_gaps_after past).newest (kept_gaps_after past).gaps
below_newest past = below_in (came_of past) (kept_gaps_after past).newest (kept_gaps_after past).gaps (inside past)
