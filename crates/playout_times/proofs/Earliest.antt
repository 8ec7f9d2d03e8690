-- The times of capture.
use Rattle.std.proofs.Common.{◌≡◌, ℕ, ◌+◌, ◌-◌, ◌<◌, ◌≤◌, min, Bool, true, false, cond, eqb, leb, ◌||◌, List, [], ◌∷◌, length, get_or, set, map, filter, refl, ap, sym, arith, subst, ◌∙◌, ⊎_elim}
use Rattle.std.specs.List.{AllByRecursion}
use Rattle.std.proofs.lemmas.Bool.{cases_eq, eq-eqb, ne_eqb, eqb-true, le-leb, leb-true, or_parts, false≢true}
use Rattle.std.proofs.lemmas.List.{get_or-set_other, get_or-set_same}
use Rattle.std.proofs.Math.ListN.{length-set}
use Rattle.playout_times.specs.declared.arrival.Arrival.{Arrival}
use Rattle.playout_times.specs.Ways.{least_number}
use Rattle.playout_times.specs.Due.{captured_from, has_come}
use Rattle.playout_times.specs.Kept.{CapturesStand, captured_of}
use Rattle.playout_times.proofs.Choosing.{all_by, all_by_both, chosen, chosen_from, least_chosen, least_from, least_le, least_small, more_chosen, none_chosen, passed}

abbrev none : ℕ
none = 18446744073709551615

abbrev time : Arrival → ℕ
time a = a.captured

-- ---- one more

more_of : (n : ℕ) (a : Arrival) (past : List Arrival) → a.picture ≡ n
    → captured_of n (a ∷ past) ≡ min a.captured (captured_of n past)
more_of n a past e = ap (λ (l : List Arrival). least_number (map time l))
    (chosen (λ b. eqb b.picture n) a past (eq-eqb a.picture n e))

same_of : (n : ℕ) (a : Arrival) (past : List Arrival) → (a.picture ≡ n → ⊥)
    → captured_of n (a ∷ past) ≡ captured_of n past
same_of n a past e = ap (λ (l : List Arrival). least_number (map time l))
    (passed (λ b. eqb b.picture n) a past (ne_eqb a.picture n e))

flipped : (m x y c d : ℕ) → m ≡ min x c → x ≡ y → d ≡ min c y → m ≡ d
flipped m x y c d e f g = omega arith

-- a packet of one of the next 64 pictures
pub noted : (old : List ℕ) (next place : ℕ) (a : Arrival) (past : List Arrival) → place < 64 → a.picture ≡ next + place
    → CapturesStand old next past → CapturesStand (set old place (min (get_or old place 0) a.captured)) next (a ∷ past)
noted old next place a past h e s =
    let long = s.long in
    let within : place < length old = omega arith in
    record {
      long = length-set old place (min (get_or old place 0) a.captured) ∙ s.long;
      each = λ k i. ⊎_elim
          (λ (j : k ≡ place). subst
          (λ (n : ℕ). get_or (set old place (min (get_or old place 0) a.captured)) n 0 ≡ captured_of (next + n)
          (a ∷ past)) (sym j)
          (flipped _ (get_or old place 0) (captured_of (next + place) past) a.captured _
          (get_or-set_same old place (min (get_or old place 0) a.captured) 0 within) (s.each place h)
          (more_of (next + place) a past e)))
          (λ (j : k ≡ place → ⊥). get_or-set_other old place k (min (get_or old place 0) a.captured) 0 j ∙ s.each k i
          ∙ sym (same_of (next + k) a past (λ f. j (omega arith))))
          (cases_eq k place);
      near = (omega arith, s.near);
    }

-- a packet of a picture that was played
pub ignored : (old : List ℕ) (next : ℕ) (a : Arrival) (past : List Arrival) → a.picture < next
    → CapturesStand old next past → CapturesStand old next (a ∷ past)
ignored old next a past h s =
    record {
      long = s.long;
      each = λ k i. s.each k i ∙ sym (same_of (next + k) a past (λ f. omega arith));
      near = (omega arith, s.near);
    }

-- the next picture is another one
pub gone_on : (old new : List ℕ) (next : ℕ) (past : List Arrival) → length new ≡ length old
    → ((k : ℕ) → k + 1 < length old → get_or new k 0 ≡ get_or old (k + 1) 0)
    → get_or new 63 0 ≡ none → CapturesStand old next past → CapturesStand new (next + 1) past
gone_on old new next past l f g s =
    let long = s.long in
    let last : captured_of (next + 64) past ≡ none =
    ap (λ (xs : List Arrival). least_number (map time xs))
    (none_chosen (λ a. eqb a.picture (next + 64)) past
    (all_by (λ a. a.picture < next + 64) (λ a. eqb a.picture (next + 64) ≡ false)
    (λ a h. ne_eqb a.picture (next + 64) (λ e. omega arith)) past s.near)) in
    record {
      long = l ∙ s.long;
      each = λ k h. ⊎_elim
          (λ (e : k ≡ 63).
          let same : next + 1 + k ≡ next + 64 = omega arith in
          ap (λ (n : ℕ). get_or new n 0) e ∙ g ∙ sym (ap (λ (n : ℕ). captured_of n past) same ∙ last))
          (λ (e : k ≡ 63 → ⊥).
          let same : next + (k + 1) ≡ next + 1 + k = omega arith in
          f k (omega arith) ∙ s.each (k + 1) (omega arith) ∙ ap (λ (n : ℕ). captured_of n past) same)
          (cases_eq k 63);
      near = all_by (λ a. a.picture < next + 64) (λ a. a.picture < next + 1 + 64) (λ a h. omega arith) past s.near;
    }

-- ---- the earliest

-- a time of a picture is at most each that a packet of it says
no_later : (b : Bool) (n l : ℕ) → cond b (min n l) l ≤ l
no_later true n l = omega arith
no_later false n l = omega arith

grows : (n : ℕ) (a : Arrival) (past : List Arrival) → captured_of n (a ∷ past) ≤ captured_of n past
grows n a past = rw (least_chosen time (λ b. eqb b.picture n) a past)
    (no_later (eqb a.picture n) a.captured (captured_of n past))

each_said : (past : List Arrival) → AllByRecursion (λ a. captured_of a.picture past ≤ a.captured) past
each_said [] = tt
each_said (b ∷ past) =
    let e = more_of b.picture b past refl in (
      omega arith,
      all_by (λ a. captured_of a.picture past ≤ a.captured) (λ a. captured_of a.picture (b ∷ past) ≤ a.captured)
          (λ a h. let g = grows a.picture b past in omega arith) past (each_said past),
    )

pub earliest : (captured : List ℕ) (next : ℕ) (past : List Arrival) → CapturesStand captured next past
    → least_number captured ≡ captured_from next past
unfolding captured_from
earliest captured next past s =
    let long = s.long in
    let above : least_number (map time (filter (λ a. leb next a.picture) past)) ≤ least_number captured =
    least_from (least_number (map time (filter (λ a. leb next a.picture) past))) captured
    (least_small (map time (filter (λ a. leb next a.picture) past)))
    (λ k h.
    let e = s.each k (omega arith) in
    let m = more_chosen time (λ a. eqb a.picture (next + k)) (λ a. leb next a.picture)
    (λ a t. let i = eqb-true a.picture (next + k) t in le-leb next a.picture (omega arith)) past in
    omega arith) in
    let below : least_number captured ≤ least_number (map time (filter (λ a. leb next a.picture) past)) =
    chosen_from (least_number captured) time (λ a. leb next a.picture) past (least_small captured)
    (all_by_both (λ a. a.picture < next + 64) (λ a. captured_of a.picture past ≤ a.captured)
    (λ a. leb next a.picture ≡ true → least_number captured ≤ a.captured)
    (λ a near said t.
    let i = leb-true next a.picture t in
    let k : a.picture - next < 64 = omega arith in
    let l = least_le captured (a.picture - next) (omega arith) in
    let e = s.each (a.picture - next) k in
    let same : next + (a.picture - next) ≡ a.picture = omega arith in
    let f = ap (λ (n : ℕ). captured_of n past) same in
    omega arith)
    past s.near (each_said past)) in
    omega (arith, above, below)

-- ---- whether something came

nothing : (next : ℕ) (past : List Arrival) → has_come next past ≡ false
    → AllByRecursion (λ a. leb next a.picture ≡ false) past
nothing next [] e = tt
nothing next (a ∷ past) e =
    let h = or_parts (leb next a.picture) (has_come next past) e in
    (h.0, nothing next past h.1)

pub not_come : (next : ℕ) (past : List Arrival) → has_come next past ≡ false → captured_from next past ≡ none
unfolding captured_from
not_come next past e =
    ap (λ (xs : List Arrival). least_number (map time xs)) (none_chosen (λ a. leb next a.picture) past
    (nothing next past e))

came_one : (b c : Bool) (n l z : ℕ) → (b || c) ≡ true → n < z → (c ≡ true → l < z) → cond b (min n l) l < z
came_one true c n l z e h f = omega arith
came_one false c n l z e h f = f e

pub come : (next z : ℕ) (past : List Arrival) → has_come next past ≡ true → AllByRecursion (λ a. a.captured < z) past
    → captured_from next past < z
unfolding captured_from
come next z [] e h = absurd (false≢true e)
come next z (a ∷ past) e h =
    rw (least_chosen time (λ b. leb next b.picture) a past)
    (came_one (leb next a.picture) (has_come next past) a.captured
    (least_number (map time (filter (λ b. leb next b.picture) past))) z e h.0
    (λ f. come next z past f h.1))
