-- The least ways of the last runs.
use Rattle.std.proofs.Common.{◌≡◌, ℕ, ◌≤◌, min, Bool, true, false, cond, eqb, List, [], ◌∷◌, ◌++◌, flat_map, take, refl, ap, sym, arith, subst, ◌∙◌}
use Rattle.std.proofs.lemmas.Bool.{eq-eqb, ne_eqb}
use Rattle.playout_times.specs.declared.arrival.Arrival.{Arrival}
use Rattle.playout_times.specs.declared.runs.Runs.{Runs}
use Rattle.playout_times.specs.Ways.{least_number, latest, onto, runs, transit, ways}
use Rattle.playout_times.specs.Kept.{RunsStand, least_of_run}
use Rattle.playout_times.proofs.Choosing.{least_map-append, least_small}

-- the last run begins with this arrival
pub record Begins (a : Arrival) (rs : List (List Arrival)) : Type 0 where
  pub run : List Arrival
  pub before : List (List Arrival)
  pub is : rs ≡ (a ∷ run) ∷ before

begins_cond : (c : Bool) (a b : Arrival) (run : List Arrival) (before : List (List Arrival))
    → Begins a (cond c ((a ∷ b ∷ run) ∷ before) ((a ∷ []) ∷ (b ∷ run) ∷ before))
begins_cond true a b run before = record { run = b ∷ run; before = before; is = refl }
begins_cond false a b run before = record { run = []; before = (b ∷ run) ∷ before; is = refl }

pub onto_begins : (a : Arrival) (rs : List (List Arrival)) → Begins a (onto a rs)
onto_begins a [] = record { run = []; before = []; is = refl }
onto_begins a ([] ∷ before) = record { run = []; before = before; is = refl }
onto_begins a ((b ∷ run) ∷ before) = begins_cond (eqb a.picture b.picture) a b run before

-- ---- one more

abbrev Three : ℕ → ℕ → ℕ → List (List Arrival) → Type 0
Three l b e rs = (l ≡ least_of_run 0 rs) × (b ≡ least_of_run 1 rs) × (e ≡ least_of_run 2 rs)

swapped : (m l t w n : ℕ) → m ≡ min l t → w ≡ t → l ≡ n → m ≡ min w n
swapped m l t w n e f g = omega arith

alone : (t w n : ℕ) → t ≤ n → w ≡ t → t ≡ min w n
alone t w n h e = omega arith

-- of the same picture as the last run
pub grown : (l b e m t : ℕ) (a c : Arrival) (rs : List (List Arrival)) → Begins c rs → a.picture ≡ c.picture
    → m ≡ min l t → transit a ≡ t → Three l b e rs → Three m b e (onto a rs)
grown l b e m t a c rs r same i w =
    subst (λ (x : List (List Arrival)). Three l b e x → Three m b e (onto a x)) (sym r.is)
    (λ s. subst (λ (x : List (List Arrival)). Three m b e x)
    (sym (ap (λ (k : Bool). cond k ((a ∷ c ∷ r.run) ∷ r.before) ((a ∷ []) ∷ (c ∷ r.run) ∷ r.before))
    (eq-eqb a.picture c.picture same)))
    (swapped m l t (transit a) (least_number (ways (c ∷ r.run))) i w s.0, s.1, s.2))

-- of another picture
pub turned : (l b e t : ℕ) (a c : Arrival) (rs : List (List Arrival)) → Begins c rs → (a.picture ≡ c.picture → ⊥)
    → t ≤ 18446744073709551615 → transit a ≡ t → Three l b e rs → Three t l b (onto a rs)
turned l b e t a c rs r other h w =
    subst (λ (x : List (List Arrival)). Three l b e x → Three t l b (onto a x)) (sym r.is)
    (λ s. subst (λ (x : List (List Arrival)). Three t l b x)
    (sym (ap (λ (k : Bool). cond k ((a ∷ c ∷ r.run) ∷ r.before) ((a ∷ []) ∷ (c ∷ r.run) ∷ r.before))
    (ne_eqb a.picture c.picture other)))
    (alone t (transit a) 18446744073709551615 h w, s.0, s.1))

pub same_picture : (r : Runs) (m t picture : ℕ) (a : Arrival) (past : List Arrival) → RunsStand r past
    → r.picture ≡ picture → m ≡ min r.last t → a.picture ≡ picture → transit a ≡ t
    → RunsStand (record { picture = picture; last = m; before = r.before; earlier = r.earlier }) (a ∷ past)
same_picture r m t picture a [] s f e p w =
    record {
      picture = p;
      last = swapped m r.last t (transit a) 18446744073709551615 e w s.last;
      before = s.before;
      earlier = s.earlier;
    }
same_picture r m t picture a (c ∷ past) s f e p w =
    let x = grown r.last r.before r.earlier m t a c (runs (c ∷ past)) (onto_begins c (runs past))
    (p ∙ sym f ∙ sym s.picture) e w (s.last, s.before, s.earlier) in
    record { picture = p; last = x.0; before = x.1; earlier = x.2 }

pub other_picture : (r : Runs) (t picture : ℕ) (a : Arrival) (past : List Arrival) → RunsStand r past
    → (r.picture ≡ picture → ⊥) → t ≤ 18446744073709551615 → a.picture ≡ picture → transit a ≡ t
    → RunsStand (record { picture = picture; last = t; before = r.last; earlier = r.before }) (a ∷ past)
other_picture r t picture a [] s n h p w =
    record {
      picture = p;
      last = alone t (transit a) 18446744073709551615 h w;
      before = s.last;
      earlier = s.before;
    }
other_picture r t picture a (c ∷ past) s n h p w =
    let other : a.picture ≡ c.picture → ⊥ = λ e. n (sym s.picture ∙ sym e ∙ p) in
    let x = turned r.last r.before r.earlier t a c (runs (c ∷ past)) (onto_begins c (runs past))
    other h w (s.last, s.before, s.earlier) in
    record { picture = p; last = x.0; before = x.1; earlier = x.2 }

pub no_runs : RunsStand
    (record {
      picture = 0;
      last = 18446744073709551615;
      before = 18446744073709551615;
      earlier = 18446744073709551615;
    }) []
no_runs = record { picture = tt; last = refl; before = refl; earlier = refl }

-- ---- the least of all

abbrev pub all_of : List (List Arrival) → List Arrival
all_of rs = flat_map (λ run. run) rs

take_none : (rs : List (List Arrival)) → take 0 rs ≡ []
take_none [] = refl
take_none (r ∷ rs) = refl

in_turn : (a b c x y z : ℕ) → c ≤ 18446744073709551615 → x ≡ min a y → y ≡ min b z → z ≡ min c 18446744073709551615
    → min a (min b c) ≡ x
in_turn a b c x y z h e f g = omega arith

pub all_three : (rs : List (List Arrival))
    → min (least_of_run 0 rs) (min (least_of_run 1 rs) (least_of_run 2 rs)) ≡ least_number (ways (all_of (take 3 rs)))
all_three [] = omega arith
all_three (r ∷ []) =
    let e = least_map-append transit r [] in
    omega (arith, e)
all_three (r ∷ s ∷ []) =
    let e = least_map-append transit r (s ++ []) in
    let f = least_map-append transit s [] in
    omega (arith, e, f)
all_three (r ∷ s ∷ t ∷ rs) =
    in_turn (least_number (ways r)) (least_number (ways s)) (least_number (ways t))
    (least_number (ways (r ++ (s ++ (t ++ [])))))
    (least_number (ways (s ++ (t ++ []))))
    (least_number (ways (t ++ []))) (least_small (ways t)) (least_map-append transit r (s ++ (t ++ [])))
    (least_map-append transit s (t ++ []))
    (least_map-append transit t [])
    ∙ ap (λ (l : List (List Arrival)). least_number (ways (r ++ (s ++ (t ++ all_of l))))) (sym (take_none rs))

pub least_latest : (r : Runs) (past : List Arrival) → RunsStand r past
    → min r.last (min r.before r.earlier) ≡ least_number (ways (latest past))
least_latest r past s =
    ap (λ (n : ℕ). min n (min r.before r.earlier)) s.last
    ∙ ap (λ (n : ℕ). min (least_of_run 0 (runs past)) (min n r.earlier)) s.before
    ∙ ap (λ (n : ℕ). min (least_of_run 0 (runs past)) (min (least_of_run 1 (runs past)) n)) s.earlier
    ∙ all_three (runs past)
