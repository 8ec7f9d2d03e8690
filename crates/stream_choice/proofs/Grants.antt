-- What a budget grants.
use Rattle.std.proofs.Common.{◌≡◌, ℕ, ◌+◌, ◌/◌, ◌<◌, ◌≤◌, Bool, true, false, cond, eqb, List, [], ◌∷◌, count_by, refl, ap, sym, arith, ◌∙◌, ⊎_elim}
use Rattle.std.specs.List.{AllByRecursion}
use Rattle.std.proofs.lemmas.Bool.{cases_Bool, eq-eqb, eqb-true, le-ltb, lt-ltb, ltb-true, ne_eqb}
use Rattle.std.proofs.lemmas.List.Sums.{sum_by-cons}
use Rattle.stream_choice.specs.declared.budget.Budget.{Budget}
use Rattle.stream_choice.specs.Granting.{BudgetStands, granted, is_granted, is_with}

abbrev in_second : ℕ → ℕ → Bool
in_second second time = eqb (time / 1000000000) second

one_more : (p : ℕ → Bool) (n : ℕ) (ns : List ℕ) → count_by p (n ∷ ns) ≡ cond (p n) 1 0 + count_by p ns
one_more p n ns = sum_by-cons (λ (x : ℕ). cond (p x) 1 0) n ns

chosen : (p : ℕ → Bool) (n : ℕ) (ns : List ℕ) → p n ≡ true → count_by p (n ∷ ns) ≡ count_by p ns + 1
chosen p n ns e =
    let f = one_more p n ns in
    let g = ap (λ (b : Bool). cond b 1 0 + count_by p ns) e in
    swapped (count_by p (n ∷ ns)) (cond (p n) 1 0 + count_by p ns) (count_by p ns) f g
  where
    swapped : (a b c : ℕ) → a ≡ b → b ≡ 1 + c → a ≡ c + 1
    swapped a b c f g = omega arith

passed : (p : ℕ → Bool) (n : ℕ) (ns : List ℕ) → p n ≡ false → count_by p (n ∷ ns) ≡ count_by p ns
passed p n ns e =
    let f = one_more p n ns in
    let g = ap (λ (b : Bool). cond b 1 0 + count_by p ns) e in
    swapped (count_by p (n ∷ ns)) (cond (p n) 1 0 + count_by p ns) (count_by p ns) f g
  where
    swapped : (a b c : ℕ) → a ≡ b → b ≡ 0 + c → a ≡ c
    swapped a b c f g = omega arith

-- ---- one more

pub grants : (b : Budget) (now n : ℕ) (past : List ℕ) → n ≡ count_by (is_with now) (granted b.most past) → n < b.most
    → is_granted b.most now past ≡ true
grants b now n past e h = lt-ltb (count_by (is_with now) (granted b.most past)) b.most (omega arith)

pub refuses : (b : Budget) (now n : ℕ) (past : List ℕ) → n ≡ count_by (is_with now) (granted b.most past) → b.most ≤ n
    → is_granted b.most now past ≡ false
refuses b now n past e h = le-ltb (count_by (is_with now) (granted b.most past)) b.most (omega arith)

later : (last now : ℕ) (past : List ℕ) → last ≤ now → AllByRecursion (λ t. t ≤ last) past
    → AllByRecursion (λ t. t ≤ now) past
later last now [] h s = tt
later last now (t ∷ past) h s =
    let first = s.0 in
    (omega arith, later last now past h s.1)

pub stands_granted : (b : Budget) (now n : ℕ) (past : List ℕ) → b.last ≤ now
    → n ≡ count_by (is_with now) (granted b.most past)
    → n < b.most → BudgetStands b past
    → BudgetStands (record { most = b.most; last = now; taken = n + 1 }) (now ∷ past)
stands_granted b now n past o e h s =
    record {
      order = (omega arith, later b.last now past o s.order);
      taken = ap (λ (k : ℕ). k + 1) e
          ∙ sym (chosen (is_with now) now (granted b.most past) (eq-eqb (now / 1000000000) (now / 1000000000) refl))
          ∙ sym (ap (λ (c : Bool). count_by (is_with now) (cond c (now ∷ granted b.most past) (granted b.most past)))
          (grants b now n past e h));
    }

pub stands_refused : (b : Budget) (now n : ℕ) (past : List ℕ) → b.last ≤ now
    → n ≡ count_by (is_with now) (granted b.most past)
    → b.most ≤ n → BudgetStands b past
    → BudgetStands (record { most = b.most; last = now; taken = n }) (now ∷ past)
stands_refused b now n past o e h s =
    record {
      order = (omega arith, later b.last now past o s.order);
      taken = e
          ∙ sym (ap (λ (c : Bool). count_by (is_with now) (cond c (now ∷ granted b.most past) (granted b.most past)))
          (refuses b now n past e h));
    }

-- ---- those of this second

pub same_second : (b : Budget) (now : ℕ) (past : List ℕ) → now / 1000000000 ≡ b.last / 1000000000 → BudgetStands b past
    → b.taken ≡ count_by (is_with now) (granted b.most past)
same_second b now past e s =
    s.taken ∙ ap (λ (second : ℕ). count_by (in_second second) (granted b.most past)) (sym e)

kept_none : (p : ℕ → Bool) (c : Bool) (t : ℕ) (ns : List ℕ) → p t ≡ false → count_by p ns ≡ 0
    → count_by p (cond c (t ∷ ns) ns) ≡ 0
kept_none p true t ns e h = passed p t ns e ∙ h
kept_none p false t ns e h = h

none_of : (most last now : ℕ) (past : List ℕ) → last / 1000000000 < now / 1000000000
    → AllByRecursion (λ t. t ≤ last) past
    → count_by (is_with now) (granted most past) ≡ 0
none_of most last now [] h s = refl
none_of most last now (t ∷ past) h s =
    let first = s.0 in
    kept_none (is_with now) (is_granted most t past) t (granted most past)
    (ne_eqb (t / 1000000000) (now / 1000000000) (λ e. omega arith)) (none_of most last now past h s.1)

pub other_second : (b : Budget) (now : ℕ) (past : List ℕ) → (now / 1000000000 ≡ b.last / 1000000000 → ⊥) → b.last ≤ now
    → BudgetStands b past → 0 ≡ count_by (is_with now) (granted b.most past)
other_second b now past n o s = sym (none_of b.most b.last now past (omega arith) s.order)

-- ---- never more

step : (c : Bool) (most second t : ℕ) (ns : List ℕ) → (c ≡ true → count_by (is_with t) ns < most)
    → count_by (in_second second) ns ≤ most → count_by (in_second second) (cond c (t ∷ ns) ns) ≤ most
step false most second t ns f h = h
step true most second t ns f h =
    ⊎_elim
    (λ (e : in_second second t ≡ true).
    let same = ap (λ (n : ℕ). count_by (in_second n) ns) (eqb-true (t / 1000000000) second e) in
    let less = f refl in
    let more = chosen (in_second second) t ns e in
    fits (count_by (in_second second) (t ∷ ns)) (count_by (in_second second) ns)
    (count_by (is_with t) ns) most more same less)
    (λ (e : in_second second t ≡ false).
    let more = passed (in_second second) t ns e in
    omega (arith, more, h))
    (cases_Bool (in_second second t))
  where
    fits : (a b c m : ℕ) → a ≡ b + 1 → c ≡ b → c < m → a ≤ m
    fits a b c m e f h = omega arith

pub never_more : (most second : ℕ) (past : List ℕ) → count_by (in_second second) (granted most past) ≤ most
never_more most second [] = omega arith
never_more most second (t ∷ past) =
    step (is_granted most t past) most second t (granted most past)
    (λ e. ltb-true (count_by (is_with t) (granted most past)) most e) (never_more most second past)
