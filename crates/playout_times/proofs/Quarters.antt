-- The least ways of the last quarters of a second.
use Rattle.std.proofs.Common.{◌≡◌, ℕ, ◌+◌, ◌<◌, ◌≤◌, min, Bool, true, false, cond, eqb, leb, ◌||◌, List, [], ◌∷◌, filter, refl, ap, sym, arith, subst, ◌∙◌, ⊎_elim}
use Rattle.std.specs.List.{AllByRecursion}
use Rattle.std.proofs.lemmas.Bool.{cases_eq, eq-eqb, ne_eqb, le-leb, lt-leb, or_left, or_right}
use Rattle.playout_times.specs.declared.arrival.Arrival.{Arrival}
use Rattle.playout_times.specs.declared.recent.Recent.{Recent}
use Rattle.playout_times.specs.Ways.{least_number, transit, ways, quarter_of}
use Rattle.playout_times.specs.Kept.{RecentStands, is_before, least_before}
use Rattle.playout_times.proofs.Choosing.{all_by, chosen, everywhere, least_chosen, none_chosen, passed, same_choice, same_test}

abbrev none : ℕ
none = 18446744073709551615

abbrev Order : ℕ → List Arrival → Type 0
Order q past = AllByRecursion (λ a. quarter_of a.at ≤ q) past

pub nothing_stands : (q : ℕ) → RecentStands (record { this = none; before = none; earlier = none }) q []
nothing_stands q = record { this = refl; before = refl; earlier = refl; order = tt }

-- ---- later

-- what came k quarters before one came k + d before the one that is d later
shifted : (k d q : ℕ) (past : List Arrival) → least_before (k + d) (q + d) past ≡ least_before k q past
shifted k d q past =
    ap (λ (l : List Arrival). least_number (ways l))
    (same_choice (is_before (k + d) (q + d)) (is_before k q) past
    (everywhere (λ a. is_before (k + d) (q + d) a ≡ is_before k q a)
    (λ a. same_test (quarter_of a.at + (k + d)) (q + d) (quarter_of a.at + k) q (λ e. omega arith)
    (λ e. omega arith)) past))

-- nothing came since
since : (k d q : ℕ) (past : List Arrival) → k < d → Order q past → least_before k (q + d) past ≡ none
since k d q past h o =
    ap (λ (l : List Arrival). least_number (ways l))
    (none_chosen (is_before k (q + d)) past
    (all_by (λ a. quarter_of a.at ≤ q) (λ a. is_before k (q + d) a ≡ false)
    (λ a i. ne_eqb (quarter_of a.at + k) (q + d) (λ e. omega arith)) past o))

later : (d q : ℕ) (past : List Arrival) → Order q past → Order (q + d) past
later d q past o =
    all_by (λ a. quarter_of a.at ≤ q) (λ a. quarter_of a.at ≤ q + d) (λ a i. omega arith) past o

pub after_none : (r : Recent) (q d : ℕ) (past : List Arrival) → d ≡ 0 → RecentStands r q past
    → RecentStands r (q + d) past
after_none r q d past e s =
    let same : q ≡ q + d = omega arith in
    subst (λ (n : ℕ). RecentStands r n past) same s

pub after_one : (r : Recent) (q d : ℕ) (past : List Arrival) → d ≡ 1 → RecentStands r q past
    → RecentStands (record { this = none; before = r.this; earlier = r.before }) (q + d) past
after_one r q d past e s =
    subst (λ (n : ℕ). RecentStands (record { this = none; before = r.this; earlier = r.before }) (q + n) past) (sym e)
    (record {
      this = sym (since 0 1 q past (omega arith) s.order);
      before = s.this ∙ sym (shifted 0 1 q past);
      earlier = s.before ∙ sym (shifted 1 1 q past);
      order = later 1 q past s.order;
    })

pub after_two : (r : Recent) (q d : ℕ) (past : List Arrival) → d ≡ 2 → RecentStands r q past
    → RecentStands (record { this = none; before = none; earlier = r.this }) (q + d) past
after_two r q d past e s =
    subst (λ (n : ℕ). RecentStands (record { this = none; before = none; earlier = r.this }) (q + n) past) (sym e)
    (record {
      this = sym (since 0 2 q past (omega arith) s.order);
      before = sym (since 1 2 q past (omega arith) s.order);
      earlier = s.this ∙ sym (shifted 0 2 q past);
      order = later 2 q past s.order;
    })

-- a value that is none stands wherever nothing came of late
pub after_more : (r n : Recent) (q d : ℕ) (past : List Arrival) → 2 < d → RecentStands r q past
    → ((p : ℕ) → RecentStands n p []) → RecentStands n (q + d) past
after_more r n q d past h s f =
    let z = f 0 in
    record {
      this = z.this ∙ sym (since 0 d q past (omega arith) s.order);
      before = z.before ∙ sym (since 1 d q past (omega arith) s.order);
      earlier = z.earlier ∙ sym (since 2 d q past h s.order);
      order = later d q past s.order;
    }

-- ---- one more

swapped : (m l t w n : ℕ) → m ≡ min l t → w ≡ t → l ≡ n → m ≡ min w n
swapped m l t w n e f g = omega arith

pub added : (r : Recent) (m t q : ℕ) (a : Arrival) (past : List Arrival) → m ≡ min r.this t → RecentStands r q past
    → transit a ≡ t → quarter_of a.at ≡ q → RecentStands (record r { this = m }) q (a ∷ past)
added r m t q a past e s w i =
    let other : (k : ℕ) → 0 < k → is_before k q a ≡ false = λ k h. ne_eqb (quarter_of a.at + k) q (λ j. omega arith) in
    record {
      this = swapped m r.this t (transit a) (least_before 0 q past) e w s.this
          ∙ sym (ap (λ (l : List Arrival). least_number (ways l))
          (chosen (is_before 0 q) a past (eq-eqb (quarter_of a.at + 0) q (omega arith))));
      before = s.before
          ∙ sym (ap (λ (l : List Arrival). least_number (ways l))
          (passed (is_before 1 q) a past (other 1 (omega arith))));
      earlier = s.earlier
          ∙ sym (ap (λ (l : List Arrival). least_number (ways l))
          (passed (is_before 2 q) a past (other 2 (omega arith))));
      order = (omega (arith, i), s.order);
    }

-- ---- the least of all

neither : (x y : Bool) → x ≡ false → y ≡ false → (x || y) ≡ false
neither x y e f = ap (λ (b : Bool). b || y) e ∙ f

-- in one of the three quarters of a second
one_of_three : (x q : ℕ) → x ≤ q → leb q (x + 2) ≡ (eqb (x + 0) q || (eqb (x + 1) q || eqb (x + 2) q))
one_of_three x q h =
    ⊎_elim
    (λ e. le-leb q (x + 2) (omega arith)
    ∙ sym (or_left (eqb (x + 0) q) (eqb (x + 1) q || eqb (x + 2) q) (eq-eqb (x + 0) q e)))
    (λ n. ⊎_elim
    (λ e. le-leb q (x + 2) (omega arith)
    ∙ sym (or_right (eqb (x + 0) q) (eqb (x + 1) q || eqb (x + 2) q)
    (or_left (eqb (x + 1) q) (eqb (x + 2) q) (eq-eqb (x + 1) q e))))
    (λ n1. ⊎_elim
    (λ e. le-leb q (x + 2) (omega arith)
    ∙ sym (or_right (eqb (x + 0) q) (eqb (x + 1) q || eqb (x + 2) q)
    (or_right (eqb (x + 1) q) (eqb (x + 2) q) (eq-eqb (x + 2) q e))))
    (λ n2. lt-leb q (x + 2) (omega arith)
    ∙ sym (neither (eqb (x + 0) q) (eqb (x + 1) q || eqb (x + 2) q) (ne_eqb (x + 0) q n)
    (neither (eqb (x + 1) q) (eqb (x + 2) q) (ne_eqb (x + 1) q n1) (ne_eqb (x + 2) q n2))))
    (cases_eq (x + 2) q))
    (cases_eq (x + 1) q))
    (cases_eq (x + 0) q)

joined : (b0 b1 b2 : Bool) (w l0 l1 l2 l : ℕ) → min l0 (min l1 l2) ≡ l
    → min (cond b0 (min w l0) l0) (min (cond b1 (min w l1) l1) (cond b2 (min w l2) l2))
    ≡ cond (b0 || (b1 || b2)) (min w l) l
joined true true true w l0 l1 l2 l e = omega arith
joined true true false w l0 l1 l2 l e = omega arith
joined true false true w l0 l1 l2 l e = omega arith
joined true false false w l0 l1 l2 l e = omega arith
joined false true true w l0 l1 l2 l e = omega arith
joined false true false w l0 l1 l2 l e = omega arith
joined false false true w l0 l1 l2 l e = omega arith
joined false false false w l0 l1 l2 l e = e

abbrev within : ℕ → Arrival → Bool
within q a = leb q (quarter_of a.at + 2)

all_three : (q : ℕ) (past : List Arrival) → Order q past
    → min (least_before 0 q past) (min (least_before 1 q past) (least_before 2 q past)) ≡ least_number
    (ways (filter (within q) past))
all_three q [] o = omega arith
all_three q (a ∷ past) o =
    ap (λ (n : ℕ). min n (min (least_before 1 q (a ∷ past)) (least_before 2 q (a ∷ past))))
    (least_chosen transit (is_before 0 q) a past)
    ∙ ap (λ (n : ℕ). min (cond (is_before 0 q a) (min (transit a) (least_before 0 q past)) (least_before 0 q past))
    (min n (least_before 2 q (a ∷ past))))
    (least_chosen transit (is_before 1 q) a past)
    ∙ ap (λ (n : ℕ). min (cond (is_before 0 q a) (min (transit a) (least_before 0 q past)) (least_before 0 q past))
    (min (cond (is_before 1 q a) (min (transit a) (least_before 1 q past)) (least_before 1 q past)) n))
    (least_chosen transit (is_before 2 q) a past)
    ∙ joined (is_before 0 q a) (is_before 1 q a) (is_before 2 q a) (transit a) (least_before 0 q past)
    (least_before 1 q past)
    (least_before 2 q past) (least_number (ways (filter (within q) past))) (all_three q past o.1)
    ∙ ap (λ (b : Bool). cond b (min (transit a) (least_number (ways (filter (within q) past))))
    (least_number (ways (filter (within q) past))))
    (sym (one_of_three (quarter_of a.at) q o.0))
    ∙ sym (least_chosen transit (within q) a past)

pub least_recent : (r : Recent) (q : ℕ) (past : List Arrival) → RecentStands r q past
    → min r.this (min r.before r.earlier) ≡ least_number (ways (filter (λ a. leb q (quarter_of a.at + 2)) past))
least_recent r q past s =
    let e0 = s.this in
    let e1 = s.before in
    let e2 = s.earlier in
    ap (λ (n : ℕ). min n (min r.before r.earlier)) e0
    ∙ ap (λ (n : ℕ). min (least_before 0 q past) (min n r.earlier)) e1
    ∙ ap (λ (n : ℕ). min (least_before 0 q past) (min (least_before 1 q past) n)) e2
    ∙ all_three q past s.order
