-- When the next picture is due.
use Rattle.std.proofs.Common.{◌≡◌, ℕ, ◌+◌, ◌-◌, ◌<◌, ◌≤◌, min, Bool, true, false, cond, leb, List, [], ◌∷◌, Option, Some, None, filter, ap, sym, arith, ◌∙◌, inl, inr}
use Rattle.std.proofs.lemmas.Bool.{cases_Bool, le-leb, false≢true}
use Rattle.playout_times.specs.declared.arrival.Arrival.{Arrival}
use Rattle.playout_times.specs.declared.times.Times.{Times}
use Rattle.playout_times.specs.Ways.{latest, least_number, least_way, quarter_of, recent, transit, ways}
use Rattle.playout_times.specs.Due.{captured_from, due_at, due_of, has_come}
use Rattle.playout_times.specs.Kept.{IsTimed, TimesStand}
use Rattle.playout_times.proofs.Choosing.{all_by, chosen, least_map-append}
use Rattle.playout_times.proofs.Earliest.{come, earliest, not_come}
use Rattle.playout_times.proofs.Following.{least_latest}
use Rattle.playout_times.proofs.Quarters.{least_recent}

abbrev origin : ℕ
origin = 4611686018427387904

abbrev none : ℕ
none = 18446744073709551615

-- ---- the least way

pub two_parts : (a : Arrival) (past : List Arrival)
    → least_way (a ∷ past) ≡ min (least_number (ways (recent a.at (a ∷ past))))
    (least_number (ways (latest (a ∷ past))))
unfolding least_way
two_parts a past = least_map-append transit (recent a.at (a ∷ past)) (latest (a ∷ past))

pub least_kept : (t : Times) (a : Arrival) (past : List Arrival) → TimesStand t (a ∷ past)
    → min (min t.recent.this (min t.recent.before t.recent.earlier))
    (min t.runs.last (min t.runs.before t.runs.earlier))
    ≡ least_way (a ∷ past)
least_kept t a past s =
    ap (λ (n : ℕ). min n (min t.runs.last (min t.runs.before t.runs.earlier)))
    (least_recent t.recent (quarter_of t.last) (a ∷ past) s.recent
    ∙ ap (λ (n : ℕ). least_number (ways (filter (λ b. leb (quarter_of n) (quarter_of b.at + 2)) (a ∷ past))))
    (sym s.newest))
    ∙ ap (λ (n : ℕ). min (least_number (ways (recent a.at (a ∷ past)))) n) (least_latest t.runs (a ∷ past) s.runs)
    ∙ sym (two_parts a past)

-- it is at most the newest packet's
pub at_most_newest : (a : Arrival) (past : List Arrival) → least_way (a ∷ past) ≤ transit a
at_most_newest a past =
    let e = two_parts a past in
    let f = ap (λ (l : List Arrival). least_number (ways l))
    (chosen (λ b. leb (quarter_of a.at) (quarter_of b.at + 2)) a past
    (le-leb (quarter_of a.at) (quarter_of a.at + 2) (omega arith))) in
    smaller (least_way (a ∷ past)) (least_number (ways (recent a.at (a ∷ past))))
    (least_number (ways (latest (a ∷ past))))
    (transit a) (least_number (ways (recent a.at past))) e f
  where
    smaller : (l r s w x : ℕ) → l ≡ min r s → r ≡ min w x → l ≤ w
    smaller l r s w x e f = omega arith

-- ---- due

saturated : (c l w : ℕ) → c < origin → l < 9223372036854775808 → w < origin
    → min (min (c + l) none + w) none - origin ≡ c + l + w - origin
saturated c l w h i j = omega arith

small_way : (c d l : ℕ) → c < origin → d < origin → l ≤ d + origin - c → l < 9223372036854775808
small_way c d l h i j = omega arith

if_come : (b : Bool) (n : ℕ) → b ≡ true → cond b (Some n) None ≡ Some n
if_come b n e = ap (λ (c : Bool). cond c (Some n) None) e

if_not : (b : Bool) (n : ℕ) → b ≡ false → cond b (Some n) None ≡ (let n : Option ℕ = None in n)
if_not b n e = ap (λ (c : Bool). cond c (Some n) None) e

captures_small : (t : Times) (past : List Arrival) → TimesStand t past → has_come t.next past ≡ true
    → captured_from t.next past < origin
captures_small t past s e =
    come t.next origin past e (all_by IsTimed (λ a. a.captured < origin) (λ a h. h.captured) past s.timed)

-- no time is kept: nothing came
pub not_due : (t : Times) (past : List Arrival) → TimesStand t past → least_number t.captured ≡ none
    → due_of t.wait t.next past ≡ None
not_due t past s e =
    let f = earliest t.captured t.next past s.captured in
    if_not (has_come t.next past) (due_at t.wait (captured_from t.next past) past)
    (elim (cases_Bool (has_come t.next past)) [
      | inl h ↦ absurd (too_small (captured_from t.next past) (captures_small t past s h) (sym f ∙ e))
      | inr h ↦ h
    ])
  where
    too_small : (n : ℕ) → n < origin → n ≡ none → ⊥
    too_small n h e = omega arith

pub is_known : (t : Times) (past : List Arrival) → TimesStand t past → (least_number t.captured ≡ none → ⊥)
    → has_come t.next past ≡ true
is_known t past s n =
    elim (cases_Bool (has_come t.next past)) [
      | inl h ↦ h
      | inr h ↦ absurd (n (earliest t.captured t.next past s.captured ∙ not_come t.next past h))
    ]

pub due : (t : Times) (captured : ℕ) (past : List Arrival) → TimesStand t past → captured ≡ least_number t.captured
    → (captured ≡ none → ⊥)
    → Some (min
    (min (captured + min (min t.recent.this (min t.recent.before t.recent.earlier))
    (min t.runs.last (min t.runs.before t.runs.earlier))) none + t.wait) none - origin)
    ≡ due_of t.wait t.next past
due t captured [] s e n = absurd (false≢true (is_known t [] s (λ f. n (e ∙ f))))
due t captured (a ∷ past) s e n =
    let known = is_known t (a ∷ past) s (λ f. n (e ∙ f)) in
    let c = e ∙ earliest t.captured t.next (a ∷ past) s.captured in
    let l = least_kept t a past s in
    let timed : IsTimed a = s.timed.0 in
    ap (λ (x : ℕ). Some
    (min (min
    (x + min (min t.recent.this (min t.recent.before t.recent.earlier))
    (min t.runs.last (min t.runs.before t.runs.earlier))) none + t.wait) none - origin)) c
    ∙ ap (λ (x : ℕ). Some (min (min (captured_from t.next (a ∷ past) + x) none + t.wait) none - origin)) l
    ∙ ap (λ (x : ℕ). Some x) (saturated (captured_from t.next (a ∷ past)) (least_way (a ∷ past)) t.wait
    (captures_small t (a ∷ past) s known)
    (small_way a.captured a.at (least_way (a ∷ past)) timed.captured timed.at (at_most_newest a past)) s.wait)
    ∙ sym (if_come (has_come t.next (a ∷ past)) (due_at t.wait (captured_from t.next (a ∷ past)) (a ∷ past)) known)
