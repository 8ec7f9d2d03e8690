-- The least of what a test chooses.
use Rattle.std.proofs.Common.{◌≡◌, ℕ, zero, suc, ◌<◌, ◌≤◌, min, Bool, true, false, cond, List, [], ◌∷◌, ◌++◌, length, get_or, map, filter, refl, ap, sym, arith, ◌∙◌, ⊎_elim}
use Rattle.std.specs.List.{AllByRecursion}
use Rattle.std.proofs.lemmas.Bool.{cases_eq, eq-eqb, ne_eqb}
use Rattle.std.proofs.Common.{eqb}
use Rattle.playout_times.specs.declared.arrival.Arrival.{Arrival}
use Rattle.playout_times.specs.Ways.{least_number}

-- ---- numbers

under : (n m : ℕ) → m ≤ n → m ≡ min n m
under n m h = omega arith

first_of_both : (a b c d : ℕ) → d ≡ min b c → min a d ≡ min (min a b) c
first_of_both a b c d e = omega arith

pub least_small : (ns : List ℕ) → least_number ns ≤ 18446744073709551615
least_small [] = omega arith
least_small (n ∷ ns) =
    let h = least_small ns in
    omega arith

pub least-append : (ms ns : List ℕ) → least_number (ms ++ ns) ≡ min (least_number ms) (least_number ns)
least-append [] ns = under 18446744073709551615 (least_number ns) (least_small ns)
least-append (m ∷ ms) ns = first_of_both m (least_number ms) (least_number ns) (least_number (ms ++ ns))
    (least-append ms ns)

pub least_le : (ns : List ℕ) (k : ℕ) → k < length ns → least_number ns ≤ get_or ns k 0
least_le [] k h = omega arith
least_le (n ∷ ns) zero h = omega arith
least_le (n ∷ ns) (suc k) h =
    let short : k < length ns = omega arith in
    let r = least_le ns k short in
    omega arith

pub least_from : (m : ℕ) (ns : List ℕ) → m ≤ 18446744073709551615
    → ((k : ℕ) → k < length ns → m ≤ get_or ns k 0) → m ≤ least_number ns
least_from m [] h f = h
least_from m (n ∷ ns) h f =
    let first : m ≤ n = f 0 (omega arith) in
    let rest : m ≤ least_number ns = least_from m ns h (λ k short. f (suc k) (omega arith)) in
    omega (arith, first, rest)

-- ---- what holds of all

pub everywhere : (P : Arrival → Type 0) → ((a : Arrival) → P a) → (past : List Arrival) → AllByRecursion P past
everywhere P f [] = tt
everywhere P f (a ∷ past) = (f a, everywhere P f past)

pub all_by : (P Q : Arrival → Type 0) → ((a : Arrival) → P a → Q a) → (past : List Arrival)
    → AllByRecursion P past → AllByRecursion Q past
all_by P Q f [] h = tt
all_by P Q f (a ∷ past) h = (f a h.0, all_by P Q f past h.1)

pub all_by_both : (P Q R : Arrival → Type 0) → ((a : Arrival) → P a → Q a → R a) → (past : List Arrival)
    → AllByRecursion P past → AllByRecursion Q past → AllByRecursion R past
all_by_both P Q R f [] h i = tt
all_by_both P Q R f (a ∷ past) h i = (f a h.0 i.0, all_by_both P Q R f past h.1 i.1)

-- ---- choosing

pub chosen : (p : Arrival → Bool) (a : Arrival) (past : List Arrival) → p a ≡ true
    → filter p (a ∷ past) ≡ a ∷ filter p past
chosen p a past e = ap (λ (b : Bool). cond b (a ∷ filter p past) (filter p past)) e

pub passed : (p : Arrival → Bool) (a : Arrival) (past : List Arrival) → p a ≡ false
    → filter p (a ∷ past) ≡ filter p past
passed p a past e = ap (λ (b : Bool). cond b (a ∷ filter p past) (filter p past)) e

-- tests that agree choose the same
pub same_choice : (p q : Arrival → Bool) (past : List Arrival) → AllByRecursion (λ a. p a ≡ q a) past
    → filter p past ≡ filter q past
same_choice p q [] s = refl
same_choice p q (a ∷ past) s =
    ap (λ (b : Bool). cond b (a ∷ filter p past) (filter p past)) s.0
    ∙ ap (λ (l : List Arrival). cond (q a) (a ∷ l) l) (same_choice p q past s.1)

pub none_chosen : (p : Arrival → Bool) (past : List Arrival) → AllByRecursion (λ a. p a ≡ false) past
    → filter p past ≡ []
none_chosen p [] s = refl
none_chosen p (a ∷ past) s = passed p a past s.0 ∙ none_chosen p past s.1

pub same_test : (x y u v : ℕ) → (x ≡ y → u ≡ v) → (u ≡ v → x ≡ y) → eqb x y ≡ eqb u v
same_test x y u v f g =
    ⊎_elim (λ e. eq-eqb x y e ∙ sym (eq-eqb u v (f e))) (λ n. ne_eqb x y n ∙ sym (ne_eqb u v (λ e. n (g e))))
    (cases_eq x y)

-- ---- the least of what is chosen

pub least_chosen : (f : Arrival → ℕ) (p : Arrival → Bool) (a : Arrival) (past : List Arrival)
    → least_number (map f (filter p (a ∷ past))) ≡ cond (p a) (min (f a) (least_number (map f (filter p past))))
    (least_number (map f (filter p past)))
least_chosen f p a past = go (p a)
  where
    go : (b : Bool) → least_number (map f (cond b (a ∷ filter p past) (filter p past)))
        ≡ cond b (min (f a) (least_number (map f (filter p past)))) (least_number (map f (filter p past)))
    go true = refl
    go false = refl

-- a test that lets more through chooses no greater a least
fewer : (b c : Bool) (n l m : ℕ) → (b ≡ true → c ≡ true) → l ≤ m → cond c (min n l) l ≤ cond b (min n m) m
fewer true true n l m h i = omega arith
fewer true false n l m h i =
    let e : false ≡ true = h refl in
    cc
fewer false true n l m h i = omega arith
fewer false false n l m h i = i

pub more_chosen : (f : Arrival → ℕ) (p q : Arrival → Bool) → ((a : Arrival) → p a ≡ true → q a ≡ true)
    → (past : List Arrival)
    → least_number (map f (filter q past)) ≤ least_number (map f (filter p past))
more_chosen f p q h [] = omega arith
more_chosen f p q h (a ∷ past) =
    rw (least_chosen f q a past, least_chosen f p a past)
    (fewer (p a) (q a) (f a) (least_number (map f (filter q past))) (least_number (map f (filter p past))) (h a)
    (more_chosen f p q h past))

-- what is at most each that is chosen
pub each_of : (b : Bool) (m n l : ℕ) → (b ≡ true → m ≤ n) → m ≤ l → m ≤ cond b (min n l) l
each_of true m n l h i =
    let j : m ≤ n = h refl in
    omega arith
each_of false m n l h i = i

pub chosen_from : (m : ℕ) (f : Arrival → ℕ) (p : Arrival → Bool) (past : List Arrival) → m ≤ 18446744073709551615
    → AllByRecursion (λ a. p a ≡ true → m ≤ f a) past → m ≤ least_number (map f (filter p past))
chosen_from m f p [] h s = h
chosen_from m f p (a ∷ past) h s =
    rw (least_chosen f p a past)
    (each_of (p a) m (f a) (least_number (map f (filter p past))) s.0 (chosen_from m f p past h s.1))

pub least_map-append : (f : Arrival → ℕ) (xs ys : List Arrival)
    → least_number (map f (xs ++ ys)) ≡ min (least_number (map f xs)) (least_number (map f ys))
least_map-append f [] ys = under 18446744073709551615 (least_number (map f ys)) (least_small (map f ys))
least_map-append f (x ∷ xs) ys =
    first_of_both (f x) (least_number (map f xs)) (least_number (map f ys)) (least_number (map f (xs ++ ys)))
    (least_map-append f xs ys)
