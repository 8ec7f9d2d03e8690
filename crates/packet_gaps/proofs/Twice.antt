-- No packet is asked for a third time.
use Rattle.std.proofs.Common.{◌≡◌, ℕ, zero, suc, ◌+◌, ◌-◌, ◌<◌, ◌≤◌, not, Bool, true, false, cond, eqb, leb, ltb, ◌||◌, List, [], ◌∷◌, ◌++◌, length, map, filter, drop, Option, Some, None, refl, ap, sym, subst, arith, ◌∙◌, ⊎_elim}
use Rattle.std.specs.Prelude.{find}
use Rattle.std.specs.List.{AllByRecursion}
use Rattle.std.proofs.lemmas.Bool.{cases_Bool, cases_lt, cond_both, eqb-true, ltb-true, ne_eqb, false≢true, or_from}
use Rattle.packet_gaps.specs.declared.gap.Gap.{Gap}
use Rattle.packet_gaps.specs.declared.moment.Moment.{Moment}
use Rattle.packet_gaps.specs.Asking.{after_asking, asked_again, is_in_nack, may_ask, gaps_told_by, told_from, gaps_asked_for, when_told}
use Rattle.packet_gaps.specs.Missing.{after_number, gaps_after_packet, gap_of, last_gaps, newest_number_after, newest_after_packet, counted_number, numbers_from}
use Rattle.packet_gaps.specs.Kept.{GapEvent, Came, Played, Asked, asked_at, has_number, kept_gaps_after}
use Rattle.packet_gaps.proofs.Choosing.{Waited, asked_parts, has_not, told_may}
use Rattle.packet_gaps.proofs.Past.{BelowIn, all_append, all_drop, all_filter, all_from, all_with, below_newest, same_number}

-- ---- numbers that grow

abbrev Increasing : List Gap → Type 0
Increasing [] = Unit {0}
Increasing (g ∷ gs) = AllByRecursion (λ h. g.number < h.number) gs × Increasing gs

grow_filter : (p : Gap → Bool) (gs : List Gap) → Increasing gs → Increasing (filter p gs)
grow_filter p [] s = tt
grow_filter p (g ∷ gs) s =
    cond_both (p g) (g ∷ filter p gs) (filter p gs) Increasing
    (λ e. (all_filter (λ h. g.number < h.number) p gs s.0, grow_filter p gs s.1))
    (λ e. grow_filter p gs s.1)

grow_drop : (n : ℕ) (gs : List Gap) → Increasing gs → Increasing (drop n gs)
grow_drop zero gs s = s
grow_drop (suc n) [] s = tt
grow_drop (suc n) (g ∷ gs) s = grow_drop n gs s.1

grow_append : (n : ℕ) (gs hs : List Gap) → Increasing gs → Increasing hs → AllByRecursion (λ g. g.number < n) gs
    → AllByRecursion (λ h. n ≤ h.number) hs → Increasing (gs ++ hs)
grow_append n [] hs s t b c = t
grow_append n (g ∷ gs) hs s t b c =
    let first = b.0 in (
      all_append (λ h. g.number < h.number) gs hs s.0
          (all_with (λ h. n ≤ h.number) (λ h. g.number < h.number) (λ h i. omega (arith, first, i)) hs c),
      grow_append n gs hs s.1 t b.1 c,
    )

grow_from : (picture first n : ℕ) → Increasing (map (gap_of picture) (numbers_from first n))
grow_from picture first zero = tt
grow_from picture first (suc n) = (
  all_from (λ h. first < h.number) (gap_of picture) (first + 1) n (λ k i j. omega (arith, i)),
  grow_from picture (first + 1) n,
)

grow_told : (m : Moment) (newest first : ℕ) (gs : List Gap) → Increasing gs
    → Increasing (map (when_told m newest first) gs)
grow_told m newest first [] s = tt
grow_told m newest first (g ∷ gs) s = (
  all_map_to (λ h. g.number < h.number) (λ h. (when_told m newest first g).number < h.number)
      (when_told m newest first)
      (λ h i.
      let a = same_number m newest first g in
      let b = same_number m newest first h in
      omega (arith, a, b, i)) gs s.0,
  grow_told m newest first gs s.1,
)
  where
    all_map_to : (P Q : Gap → Type 0) (f : Gap → Gap) → ((g : Gap) → P g → Q (f g)) → (gs : List Gap)
        → AllByRecursion P gs → AllByRecursion Q (map f gs)
    all_map_to P Q f s [] h = tt
    all_map_to P Q f s (g ∷ gs) h = (s g h.0, all_map_to P Q f s gs h.1)

grow_number : (newest k picture : ℕ) (gs : List Gap) → Increasing gs → AllByRecursion (λ g. g.number < newest) gs
    → Increasing (after_number newest k picture gs)
grow_number newest k picture gs s b =
    let new = map (gap_of picture) (numbers_from (newest + 1) (k - newest - 1)) in
    cond_both (ltb newest k) (last_gaps 64 (gs ++ new)) (filter (λ g. not (eqb g.number k)) gs) Increasing
    (λ e. grow_drop (length (gs ++ new) - 64) (gs ++ new)
    (grow_append newest gs new s (grow_from picture (newest + 1) (k - newest - 1)) b
    (all_from (λ h. newest ≤ h.number) (gap_of picture) (newest + 1) (k - newest - 1) (λ j i l. omega (arith, i)))))
    (λ e. grow_filter (λ g. not (eqb g.number k)) gs s)

grow_packet : (o : Option ℕ) (sequence picture : ℕ) (gs : List Gap) → Increasing gs → BelowIn o gs
    → Increasing (gaps_after_packet o sequence picture gs)
grow_packet None sequence picture gs s b = s
grow_packet (Some newest) sequence picture gs s b = grow_number newest (counted_number newest sequence) picture gs s b

grow_by : (m : Moment) (newest : ℕ) (gs : List Gap) (o : Option Gap) → Increasing gs
    → Increasing (told_from m newest gs o)
grow_by m newest gs None s = s
grow_by m newest gs (Some x) s = grow_told m newest x.number gs s

grow_asking : (m : Moment) (o : Option ℕ) (gs : List Gap) → Increasing gs → Increasing (after_asking m o gs)
grow_asking m None gs s = s
grow_asking m (Some newest) gs s = grow_by m newest gs (find (may_ask m newest) gs) s

grow : (past : List GapEvent) → Increasing (kept_gaps_after past).gaps
grow [] = tt
grow (Came sequence picture ∷ past) =
    grow_packet (kept_gaps_after past).newest sequence picture (kept_gaps_after past).gaps (grow past)
    (below_newest past)
grow (Played next ∷ past) = grow_filter (λ g. leb next g.picture) (kept_gaps_after past).gaps (grow past)
grow (Asked m ∷ past) = grow_asking m (kept_gaps_after past).newest (kept_gaps_after past).gaps (grow past)

-- ---- which are asked for

no_number : (number : ℕ) (gs : List Gap) → AllByRecursion (λ g. g.number ≡ number → ⊥) gs → has_number number gs ≡ false
no_number number [] s = refl
no_number number (g ∷ gs) s =
    or_from (eqb g.number number) (has_number number gs) (ne_eqb g.number number s.0) (no_number number gs s.1)

-- where the one with this number isn't chosen, none is
not_chosen : (number : ℕ) (p : Gap → Bool) (gs : List Gap) → Increasing gs
    → AllByRecursion (λ g. g.number ≡ number → p g ≡ false → has_number number (filter p gs) ≡ false) gs
not_chosen number p [] s = tt
not_chosen number p (x ∷ gs) s = (
  λ e f.
      ap (λ (b : Bool). has_number number (cond b (x ∷ filter p gs) (filter p gs))) f
      ∙ no_number number (filter p gs)
      (all_filter (λ g. g.number ≡ number → ⊥) p gs
      (all_with (λ g. x.number < g.number) (λ g. g.number ≡ number → ⊥) (λ g i d. omega (arith, i, d, e)) gs s.0)),
  later gs (not_chosen number p gs s.1) s.0,
)
  where
    later : (hs : List Gap)
        → AllByRecursion (λ g. g.number ≡ number → p g ≡ false → has_number number (filter p gs) ≡ false) hs
        → AllByRecursion (λ g. x.number < g.number) hs
        → AllByRecursion (λ g. g.number ≡ number → p g ≡ false
        → has_number number (cond (p x) (x ∷ filter p gs) (filter p gs)) ≡ false) hs
    later [] h i = tt
    later (g ∷ hs) h i =
        let above = i.0 in (
          λ e f.
              cond_both (p x) (x ∷ filter p gs) (filter p gs) (λ l. has_number number l ≡ false)
              (λ t. or_from (eqb x.number number) (has_number number (filter p gs))
              (ne_eqb x.number number (λ d. omega (arith, above, d, e))) (h.0 e f))
              (λ t. h.0 e f),
          later hs h.1 i.1,
        )

-- one of those that are chosen has it
some_chosen : (Q : Type 0) (number : ℕ) (p : Gap → Bool) (gs : List Gap)
    → AllByRecursion (λ g. g.number ≡ number → p g ≡ true → Q) gs → has_number number (filter p gs) ≡ true → Q
some_chosen Q number p [] s e = absurd (false≢true e)
some_chosen Q number p (x ∷ gs) s e =
    ⊎_elim
    (λ (t : p x ≡ true).
    ⊎_elim
    (λ (u : eqb x.number number ≡ true). s.0 (eqb-true x.number number u) t)
    (λ (u : eqb x.number number ≡ false).
    some_chosen Q number p gs s.1
    (sym (ap (λ (b : Bool). b || has_number number (filter p gs)) u)
    ∙ sym (ap (λ (b : Bool). has_number number (cond b (x ∷ filter p gs) (filter p gs))) t) ∙ e))
    (cases_Bool (eqb x.number number)))
    (λ (t : p x ≡ false).
    some_chosen Q number p gs s.1
    (sym (ap (λ (b : Bool). has_number number (cond b (x ∷ filter p gs) (filter p gs))) t) ∙ e))
    (cases_Bool (p x))

-- ---- when it was asked for

-- the gap counts these times, and has the last one
record Sound (times : List ℕ) (g : Gap) : Type 0 where
  counted : length times ≤ g.asked
  latest : g.asked ≤ 1 → AllByRecursion (λ t. t ≡ g.last) times

abbrev Counts : ℕ → List ℕ → List Gap → Type 0
Counts number times gs = AllByRecursion (λ g. g.number ≡ number → Sound times g) gs

-- it was never asked for, if it is ahead
abbrev Fresh : ℕ → List ℕ → Option ℕ → Type 0
Fresh number times None = times ≡ []
Fresh number times (Some newest) = newest < number → times ≡ []

record Fine (number : ℕ) (times : List ℕ) (o : Option ℕ) (gs : List Gap) : Type 0 where
  few : length times ≤ 2
  fresh : Fresh number times o
  counts : Counts number times gs

new_sound : (times : List ℕ) (picture number : ℕ) → times ≡ [] → Sound times (gap_of picture number)
new_sound times picture number e =
    subst (λ (ts : List ℕ). Sound ts (gap_of picture number)) (sym e)
    (record { counted = omega arith; latest = λ h. tt })

fine_number : (number : ℕ) (times : List ℕ) (newest k picture : ℕ) (gs : List Gap) → Fine number times (Some newest) gs
    → Fine number times (Some (newest_number_after newest k)) (after_number newest k picture gs)
fine_number number times newest k picture gs s =
    record {
      few = s.few;
      fresh = cond_both (ltb newest k) k newest (λ n. n < number → times ≡ [])
          (λ e h. s.fresh (less newest k number (ltb-true newest k e) h)) (λ e h. s.fresh h);
      counts = cond_both (ltb newest k) (last_gaps 64 (gs ++ new)) (filter (λ g. not (eqb g.number k)) gs)
          (Counts number times)
          (λ e. all_drop P (length (gs ++ new) - 64) (gs ++ new)
          (all_append P gs new s.counts
          (all_from P (gap_of picture) (newest + 1) (k - newest - 1)
          (λ n h i d. new_sound times picture n (s.fresh (omega (arith, h, d)))))))
          (λ e. all_filter P (λ g. not (eqb g.number k)) gs s.counts);
    }
  where
    P : Gap → Type 0
    P g = g.number ≡ number → Sound times g

    new : List Gap
    new = map (gap_of picture) (numbers_from (newest + 1) (k - newest - 1))

    less : (a b c : ℕ) → a < b → b < c → a < c
    less a b c h i = omega arith

fine_packet : (number : ℕ) (times : List ℕ) (o : Option ℕ) (sequence picture : ℕ) (gs : List Gap)
    → Fine number times o gs
    → Fine number times (newest_after_packet o sequence) (gaps_after_packet o sequence picture gs)
fine_packet number times None sequence picture gs s =
    record { few = s.few; fresh = λ h. s.fresh; counts = s.counts }
fine_packet number times (Some newest) sequence picture gs s =
    fine_number number times newest (counted_number newest sequence) picture gs s

none_of : (times : List ℕ) → length times ≤ 0 → times ≡ []
none_of [] h = refl
none_of (t ∷ times) h =
    let no : ⊥ = omega (arith, h) in
    absurd no

-- one that is asked for now, once more or not
sound_again : (b : Bool) (time : ℕ) (times : List ℕ) (g : Gap) → g.asked < 2 → Sound times g
    → Sound (cond b (time ∷ times) times) (asked_again time g)
sound_again b time times g few s =
    cond_both b (time ∷ times) times (λ ts. Sound ts (asked_again time g))
    (λ e. let c = s.counted in
    record {
      counted = omega (arith, c, few);
      latest = λ h. (refl, subst (AllByRecursion (λ t. t ≡ time)) (sym (none_of times (omega (arith, c, h, few)))) tt);
    })
    (λ e. let c = s.counted in
    record {
      counted = omega (arith, c, few);
      latest = λ h. subst (AllByRecursion (λ t. t ≡ time)) (sym (none_of times (omega (arith, c, h, few)))) tt;
    })

waits : (m : Moment) (newest first : ℕ) (g : Gap) → is_in_nack m newest first g ≡ true → Waited m g
waits m newest first g e = has_not m g (asked_parts m newest g (told_may m newest first g e)).0

-- the times after a field with this PID
abbrev TimesAfter : ℕ → List ℕ → Moment → ℕ → ℕ → List Gap → List ℕ
TimesAfter number times m newest first gs =
    cond (has_number number (filter (is_in_nack m newest first) gs)) (m.time ∷ times) times

counts_told : (number : ℕ) (times : List ℕ) (m : Moment) (newest first : ℕ) (b : Bool) (gs : List Gap)
    → AllByRecursion (λ g. g.number ≡ number → Sound times g) gs
    → AllByRecursion (λ g. g.number ≡ number → is_in_nack m newest first g ≡ false → b ≡ false) gs
    → Counts number (cond b (m.time ∷ times) times) (map (when_told m newest first) gs)
counts_told number times m newest first b [] s t = tt
counts_told number times m newest first b (g ∷ gs) s t =
    (λ d. one (sym (same_number m newest first g) ∙ d), counts_told number times m newest first b gs s.1 t.1)
  where
    one : g.number ≡ number → Sound (cond b (m.time ∷ times) times) (when_told m newest first g)
    one d =
        cond_both (is_in_nack m newest first g) (asked_again m.time g) g (λ x. Sound (cond b (m.time ∷ times) times) x)
        (λ e. sound_again b m.time times g (waits m newest first g e).once (s.0 d))
        (λ e. subst (λ (c : Bool). Sound (cond c (m.time ∷ times) times) g) (sym (t.0 d e)) (s.0 d))

fine_told : (number : ℕ) (times : List ℕ) (m : Moment) (newest first : ℕ) (gs : List Gap)
    → Fine number times (Some newest) gs → Increasing gs → AllByRecursion (λ g. g.number < newest) gs
    → Fine number (TimesAfter number times m newest first gs) (Some newest) (map (when_told m newest first) gs)
fine_told number times m newest first gs s i below =
    let p = is_in_nack m newest first in
    let b = has_number number (filter p gs) in
    record {
      few = cond_both b (m.time ∷ times) times (λ ts. length ts ≤ 2)
          (λ e. some_chosen (length (m.time ∷ times) ≤ 2) number p gs
          (all_with (λ g. g.number ≡ number → Sound times g)
          (λ g. g.number ≡ number → p g ≡ true → length (m.time ∷ times) ≤ 2)
          (λ g f d t.
          let c = (f d).counted in
          let o = (waits m newest first g t).once in
          omega (arith, c, o)) gs s.counts) e)
          (λ e. s.few);
      fresh = λ h.
          ap (λ (c : Bool). cond c (m.time ∷ times) times)
          (no_number number (filter p gs)
          (all_filter (λ g. g.number ≡ number → ⊥) p gs
          (all_with (λ g. g.number < newest) (λ g. g.number ≡ number → ⊥) (λ g l d. omega (arith, l, d, h)) gs below)))
          ∙ s.fresh h;
      counts = counts_told number times m newest first b gs s.counts (not_chosen number p gs i);
    }

fine_by : (number : ℕ) (times : List ℕ) (m : Moment) (newest : ℕ) (gs : List Gap) (o : Option Gap)
    → Fine number times (Some newest) gs → Increasing gs → AllByRecursion (λ g. g.number < newest) gs
    → Fine number (cond (has_number number (gaps_told_by m newest gs o)) (m.time ∷ times) times) (Some newest)
    (told_from m newest gs o)
fine_by number times m newest gs None s i below = s
fine_by number times m newest gs (Some x) s i below = fine_told number times m newest x.number gs s i below

fine_asking : (number : ℕ) (times : List ℕ) (m : Moment) (o : Option ℕ) (gs : List Gap)
    → Fine number times o gs → Increasing gs → BelowIn o gs
    → Fine number (cond (has_number number (gaps_asked_for m o gs)) (m.time ∷ times) times) o (after_asking m o gs)
fine_asking number times m None gs s i below = s
fine_asking number times m (Some newest) gs s i below =
    fine_by number times m newest gs (find (may_ask m newest) gs) s i below

fine : (number : ℕ) (past : List GapEvent)
    → Fine number (asked_at number past) (kept_gaps_after past).newest (kept_gaps_after past).gaps
fine number [] = record { few = omega arith; fresh = refl; counts = tt }
fine number (Came sequence picture ∷ past) =
    fine_packet number (asked_at number past) (kept_gaps_after past).newest sequence picture (kept_gaps_after past).gaps
    (fine number past)
fine number (Played next ∷ past) =
    let s = fine number past in
    record {
      few = s.few;
      fresh = s.fresh;
      counts = all_filter (λ g. g.number ≡ number → Sound (asked_at number past) g) (λ g. leb next g.picture)
          (kept_gaps_after past).gaps s.counts;
    }
fine number (Asked m ∷ past) =
    fine_asking number (asked_at number past) m (kept_gaps_after past).newest (kept_gaps_after past).gaps
    (fine number past) (grow past)
    (below_newest past)

pub twice : (past : List GapEvent) (number : ℕ) → length (asked_at number past) ≤ 2
twice past number =
    let s = fine number past in
    s.few

-- ---- a round trip apart

all_same : (P : ℕ → Type 0) (last : ℕ) (times : List ℕ) → P last → AllByRecursion (λ t. t ≡ last) times
    → AllByRecursion P times
all_same P last [] h s = tt
all_same P last (t ∷ times) h s = (subst P (sym s.0) h, all_same P last times h s.1)

since_last : (m : Moment) (times : List ℕ) (g : Gap) → Waited m g → Sound times g
    → AllByRecursion (λ t. m.round_trip ≤ m.time - t) times
since_last m times g w s =
    let P = λ (t : ℕ). m.round_trip ≤ m.time - t in
    let c = s.counted in
    let o = w.once in
    ⊎_elim
    (λ (h : 0 < g.asked). all_same P g.last times (w.apart (omega (arith, h))) (s.latest (omega (arith, o))))
    (λ (h : g.asked ≤ 0). subst (AllByRecursion P) (sym (none_of times (omega (arith, c, h)))) tt)
    (cases_lt 0 g.asked)

apart_by : (number : ℕ) (times : List ℕ) (m : Moment) (newest : ℕ) (gs : List Gap) (o : Option Gap)
    → Counts number times gs → has_number number (gaps_told_by m newest gs o) ≡ true
    → AllByRecursion (λ t. m.round_trip ≤ m.time - t) times
apart_by number times m newest gs None s e = absurd (false≢true e)
apart_by number times m newest gs (Some x) s e =
    let p = is_in_nack m newest x.number in
    let Q = AllByRecursion (λ t. m.round_trip ≤ m.time - t) times in
    some_chosen Q number p gs
    (all_with (λ g. g.number ≡ number → Sound times g) (λ g. g.number ≡ number → p g ≡ true → Q)
    (λ g f d t. since_last m times g (waits m newest x.number g t) (f d)) gs s) e

apart_in : (number : ℕ) (times : List ℕ) (m : Moment) (o : Option ℕ) (gs : List Gap) → Counts number times gs
    → has_number number (gaps_asked_for m o gs) ≡ true → AllByRecursion (λ t. m.round_trip ≤ m.time - t) times
apart_in number times m None gs s e = absurd (false≢true e)
apart_in number times m (Some newest) gs s e =
    apart_by number times m newest gs (find (may_ask m newest) gs) s e

pub apart : (past : List GapEvent) (m : Moment) (number : ℕ)
    → has_number number (gaps_asked_for m (kept_gaps_after past).newest (kept_gaps_after past).gaps) ≡ true
    → AllByRecursion (λ t. m.round_trip ≤ m.time - t) (asked_at number past)
apart past m number e =
    let s = fine number past in
    apart_in number (asked_at number past) m (kept_gaps_after past).newest (kept_gaps_after past).gaps s.counts e
