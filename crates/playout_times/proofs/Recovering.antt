-- What came before doesn't count for good.
use Rattle.std.proofs.Common.{◌≡◌, ℕ, zero, suc, ◌+◌, ◌-◌, ◌<◌, ◌≤◌, min, Bool, true, false, cond, eqb, leb, List, [], ◌∷◌, ◌++◌, length, take, sym, arith, subst}
use Rattle.std.specs.Prelude.{IfSome, Some, None}
use Rattle.std.specs.List.{AllByRecursion}
use Rattle.std.proofs.lemmas.Bool.{leb-true}
use Rattle.playout_times.specs.declared.arrival.Arrival.{Arrival}
use Rattle.playout_times.specs.Ways.{counted, latest, least_number, least_way, onto, quarter_of, recent, runs, transit, ways}
use Rattle.playout_times.specs.Due.{captured_from, due_at, due_of, has_come}
use Rattle.playout_times.specs.Kept.{IsTimed, least_of_run}
use Rattle.playout_times.specs.Laws.{Hides}
use Rattle.playout_times.proofs.Choosing.{all_by, chosen_from}
use Rattle.playout_times.proofs.Dues.{at_most_newest, two_parts}
use Rattle.playout_times.proofs.Following.{all_of, all_three}

-- ---- the least

least_each : (past : List Arrival) → AllByRecursion (λ a. least_number (ways past) ≤ transit a) past
least_each past = go past (least_number (ways past)) (omega arith)
  where
    go : (rest : List Arrival) (n : ℕ) → n ≤ least_number (ways rest) → AllByRecursion (λ a. n ≤ transit a) rest
    go [] n h = tt
    go (a ∷ rest) n h = (
      left n (transit a) (least_number (ways rest)) h,
      go rest n (right n (transit a) (least_number (ways rest)) h),
    )
      where
        left : (n a l : ℕ) → n ≤ min a l → n ≤ a
        left n a l h = omega arith

        right : (n a l : ℕ) → n ≤ min a l → n ≤ l
        right n a l h = omega arith

pub least_is_least : (past : List Arrival) → AllByRecursion (λ a. least_way past ≤ transit a) (counted past)
unfolding least_way
least_is_least past = least_each (counted past)

-- ---- what holds of all of a run

abbrev AllRuns : (Arrival → Type 0) → List (List Arrival) → Type 0
AllRuns P rs = AllByRecursion (λ run. AllByRecursion P run) rs

onto_cond : (P : Arrival → Type 0) (c : Bool) (a : Arrival) (run : List Arrival) (before : List (List Arrival)) → P a
    → AllByRecursion P run → AllRuns P before → AllRuns P (cond c ((a ∷ run) ∷ before) ((a ∷ []) ∷ run ∷ before))
onto_cond P true a run before h i j = ((h, i), j)
onto_cond P false a run before h i j = ((h, tt), (i, j))

onto_all : (P : Arrival → Type 0) (a : Arrival) (rs : List (List Arrival)) → P a → AllRuns P rs → AllRuns P (onto a rs)
onto_all P a [] h s = ((h, tt), tt)
onto_all P a ([] ∷ before) h s = ((h, tt), s.1)
onto_all P a ((b ∷ run) ∷ before) h s = onto_cond P (eqb a.picture b.picture) a (b ∷ run) before h s.0 s.1

runs_all : (P : Arrival → Type 0) (past : List Arrival) → AllByRecursion P past → AllRuns P (runs past)
runs_all P [] s = tt
runs_all P (a ∷ past) s = onto_all P a (runs past) s.0 (runs_all P past s.1)

least_from_each : (n : ℕ) (run : List Arrival) → n ≤ 18446744073709551615 → AllByRecursion (λ a. n ≤ transit a) run
    → n ≤ least_number (ways run)
least_from_each n [] h s = h
least_from_each n (a ∷ run) h s = both n (transit a) (least_number (ways run)) s.0 (least_from_each n run h s.1)
  where
    both : (n a l : ℕ) → n ≤ a → n ≤ l → n ≤ min a l
    both n a l h i = omega arith

-- the first runs are those of the later ones
run_from : (n k : ℕ) (rs ss : List (List Arrival)) → n ≤ 18446744073709551615 → k < length rs
    → AllRuns (λ a. n ≤ transit a) rs
    → n ≤ least_of_run k (rs ++ ss)
run_from n k [] ss h i s =
    let no : ⊥ = omega arith in
    absurd no
run_from n zero (run ∷ rs) ss h i s = least_from_each n run h s.0
run_from n (suc k) (run ∷ rs) ss h i s = run_from n k rs ss h (omega arith) s.1

three_from : (n x y z l : ℕ) → min x (min y z) ≡ l → n ≤ x → n ≤ y → n ≤ z → n ≤ l
three_from n x y z l e h i j = omega arith

latest_from : (n : ℕ) (rs ss all : List (List Arrival)) → all ≡ rs ++ ss → n ≤ 18446744073709551615 → 3 ≤ length rs
    → AllRuns (λ a. n ≤ transit a) rs → n ≤ least_number (ways (all_of (take 3 all)))
latest_from n rs ss all e h i s =
    subst (λ (l : List (List Arrival)). n ≤ least_number (ways (all_of (take 3 l)))) (sym e)
    (three_from n (least_of_run 0 (rs ++ ss)) (least_of_run 1 (rs ++ ss)) (least_of_run 2 (rs ++ ss))
    (least_number (ways (all_of (take 3 (rs ++ ss))))) (all_three (rs ++ ss))
    (run_from n 0 rs ss h (omega arith) s) (run_from n 1 rs ss h (omega arith) s)
    (run_from n 2 rs ss h (omega arith) s))

-- ---- recovering

all_append : (P : Arrival → Type 0) (xs ys : List Arrival) → AllByRecursion P xs → AllByRecursion P ys
    → AllByRecursion P (xs ++ ys)
all_append P [] ys h i = i
all_append P (x ∷ xs) ys h i = (h.0, all_append P xs ys h.1 i)

recent_from : (n now : ℕ) (later before : List Arrival) → n ≤ 18446744073709551615
    → AllByRecursion (λ a. n ≤ transit a) later
    → AllByRecursion (λ b. quarter_of b.at + 2 < quarter_of now) before
    → n ≤ least_number (ways (recent now (later ++ before)))
recent_from n now later before h s o =
    chosen_from n transit (λ a. leb (quarter_of now) (quarter_of a.at + 2)) (later ++ before) h
    (all_append (λ a. leb (quarter_of now) (quarter_of a.at + 2) ≡ true → n ≤ transit a) later before
    (all_by (λ a. n ≤ transit a) (λ a. leb (quarter_of now) (quarter_of a.at + 2) ≡ true
    → n ≤ transit a) (λ a i t. i) later s)
    (all_by (λ b. quarter_of b.at + 2 < quarter_of now)
    (λ a. leb (quarter_of now) (quarter_of a.at + 2) ≡ true → n ≤ transit a)
    (λ a i t.
    let j = leb-true (quarter_of now) (quarter_of a.at + 2) t in
    let no : ⊥ = omega arith in
    absurd no)
    before o))

small : (n c t : ℕ) → c < 4611686018427387904 → t < 4611686018427387904 → n ≤ t + 4611686018427387904 - c
    → n ≤ 18446744073709551615
small n c t h i j = omega arith

split : (n l r s : ℕ) → l ≡ min r s → n ≤ r → n ≤ s → n ≤ l
split n l r s e h i = omega arith

pub shortest_from : (n : ℕ) (later before : List Arrival) → Hides later before → AllByRecursion IsTimed later
    → AllByRecursion (λ a. n ≤ transit a) later → n ≤ least_way (later ++ before)
shortest_from n [] before h t s =
    let three = h.three in
    let no : ⊥ = omega arith in
    absurd no
shortest_from n (a ∷ later) before h t s =
    let fits = small n a.captured a.at t.0.captured t.0.at s.0 in
    split n (least_way (a ∷ later ++ before)) (least_number (ways (recent a.at (a ∷ later ++ before))))
    (least_number (ways (latest (a ∷ later ++ before))))
    (two_parts a (later ++ before))
    (recent_from n a.at (a ∷ later) before fits s h.old)
    (latest_from n (runs (a ∷ later)) (runs before) (runs (a ∷ later ++ before)) h.apart fits h.three
    (runs_all (λ b. n ≤ transit b) (a ∷ later) s))

pub recovers : (shortest longest : ℕ) (later before : List Arrival) → Hides later before → AllByRecursion IsTimed later
    → AllByRecursion (λ a. (shortest ≤ transit a) × (transit a ≤ longest)) later
    → (shortest ≤ least_way (later ++ before)) × (least_way (later ++ before) ≤ longest)
recovers n m [] before h t s =
    let three = h.three in
    let no : ⊥ = omega arith in
    absurd no
recovers n m (a ∷ later) before h t s = (
  shortest_from n (a ∷ later) before h t
      (all_by (λ b. (n ≤ transit b) × (transit b ≤ m)) (λ b. n ≤ transit b) (λ b i. i.0) (a ∷ later) s),
  through (least_way (a ∷ later ++ before)) (transit a) m (at_most_newest a (later ++ before)) s.0.1,
)
  where
    through : (x y z : ℕ) → x ≤ y → y ≤ z → x ≤ z
    through x y z h i = omega arith

-- ---- in time

comes_first : (w n c t f l : ℕ) → c < 4611686018427387904 → t + 4611686018427387904 - c ≤ n + w → c ≤ f → n ≤ l
    → t ≤ f + l + w - 4611686018427387904
comes_first w n c t f l h i j k = omega arith

if_some : (b : Bool) (n : ℕ) (P : ℕ → Type 0) → P n → IfSome (cond b (Some n) None) P
if_some true n P h = h
if_some false n P h = tt

earliest_from : (n picture : ℕ) (past : List Arrival) → n ≤ 18446744073709551615
    → AllByRecursion (λ a. picture ≤ a.picture → n ≤ a.captured) past → n ≤ captured_from picture past
unfolding captured_from
earliest_from n picture past h s =
    chosen_from n (λ a. a.captured) (λ a. leb picture a.picture) past h
    (all_by (λ a. picture ≤ a.picture → n ≤ a.captured) (λ a. leb picture a.picture ≡ true → n ≤ a.captured)
    (λ a f t. f (leb-true picture a.picture t)) past s)

pub in_time : (wait shortest : ℕ) (packet : Arrival) (later before : List Arrival) → Hides later before
    → AllByRecursion IsTimed later
    → AllByRecursion (λ a. shortest ≤ transit a) later
    → AllByRecursion (λ a. packet.picture ≤ a.picture → packet.captured ≤ a.captured) (later ++ before)
    → IsTimed packet → transit packet ≤ shortest + wait
    → IfSome (due_of wait packet.picture (later ++ before)) (λ time. packet.at ≤ time)
in_time wait n p later before h t s said timed short =
    let past = later ++ before in
    if_some (has_come p.picture past) (due_at wait (captured_from p.picture past) past) (λ time. p.at ≤ time)
    (comes_first wait n p.captured p.at (captured_from p.picture past) (least_way past) timed.captured short
    (earliest_from p.captured p.picture past (fits p.captured timed.captured) said)
    (shortest_from n later before h t s))
  where
    fits : (n : ℕ) → n < 4611686018427387904 → n ≤ 18446744073709551615
    fits n h = omega arith
