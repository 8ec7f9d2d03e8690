-- What is found, whatever was sent.
use Rattle.std.proofs.Common.{◌≡◌, ℕ, suc, ◌+◌, ◌%◌, ◌<◌, ◌≤◌, ◌==◌, nat_le, Bool, true, false, cond, List, [], ◌∷◌, ◌++◌, length, Option, Some, None, refl, ap, sym, arith, ◌∙◌, inl, inr}
use Rattle.std.specs.List.{find}
use Rattle.std.specs.Prelude.{slice_get}
use Rattle.std.proofs.lemmas.Bool.{cases_Bool, cond-true, cond-false, eq-eqb, eqb-false, eqb-true, ne_eqb, leb-true}
use Rattle.packet_repeats.specs.Sent.{ArePlaces, if_numbered, may_stay, may_stay_at, last_at, sequence_number_of}
use Rattle.packet_repeats.specs.Keeping.{bytes_or_none}
use Rattle.packet_repeats.specs.Laws.{AreNext, Bounded, StillKept, Newest, FindsSent, may_stay_as}
use Rattle.packet_repeats.proofs.Places.{find_passes, kept_at}
use Rattle.packet_repeats.proofs.Rows.{bounded as few_places, other_remainder, remainder_kept}

-- what is found is the last one at its place, and has the number
numbered : (sequence : ℕ) (o : Option (List ℕ)) (x : List ℕ) → if_numbered sequence o ≡ Some x
    → (o ≡ Some x) × (sequence_number_of x ≡ sequence)
numbered sequence None x e = absurd cc
numbered sequence (Some y) x e =
    elim (cases_Bool (sequence_number_of y == sequence)) [
      | inl is ↦
          let same : Some y ≡ Some x = sym (cond-true (sequence_number_of y == sequence) (Some y) None is) ∙ e in
          (same, ap sequence_number_of (ap bytes_or_none (sym same)) ∙ eqb-true (sequence_number_of y) sequence is)
      | inr not ↦
          let none : None ≡ Some x = sym (cond-false (sequence_number_of y == sequence) (Some y) None not) ∙ e in
          absurd cc
    ]

eqb_apart : (a b : ℕ) → (a == b) ≡ false → a ≡ b → ⊥
eqb_apart a b e same = eqb-false a b e same

-- of a number's remainder the first has the number, so it is the first with the number
first_of : (places longest sequence : ℕ) (sent : List (List ℕ)) (x : List ℕ)
    → last_at places longest (sequence % places) sent ≡ Some x
    → sequence_number_of x ≡ sequence → find (may_stay_as longest sequence) sent ≡ Some x
first_of places longest sequence [] x e is = absurd cc
first_of places longest sequence (y ∷ ys) x e is =
    let at = may_stay_at places longest (sequence % places) in
    let as_it = may_stay_as longest sequence in
    elim (cases_Bool (at y)) [
      | inl here ↦
          let same : y ≡ x = ap bytes_or_none (sym (cond-true (at y) (Some y) (find at ys) here) ∙ e) in
          let kept : may_stay longest y ≡ true = kept_at places longest (sequence % places) y here in
          let yes_it : as_it y ≡ true = cond-true (may_stay longest y) (sequence_number_of y == sequence) false kept
          ∙ eq-eqb (sequence_number_of y) sequence (ap sequence_number_of same ∙ is) in
          cond-true (as_it y) (Some y) (find as_it ys) yes_it ∙ ap Some same
      | inr elsewhere ↦
          let rest : find at ys ≡ Some x = sym (cond-false (at y) (Some y) (find at ys) elsewhere) ∙ e in
          cond-false (as_it y) (Some y) (find as_it ys) (not_as places longest sequence y elsewhere)
          ∙ first_of places longest sequence ys x rest is
    ]
  where
    not_as : (places longest sequence : ℕ) (y : List ℕ) → may_stay_at places longest (sequence % places) y ≡ false
        → may_stay_as longest sequence y ≡ false
    not_as places longest sequence y e =
        elim (cases_Bool (may_stay longest y)) [
          | inl kept ↦
              let other : (sequence_number_of y % places == sequence % places) ≡ false =
              sym (cond-true (may_stay longest y) (sequence_number_of y % places == sequence % places) false kept)
              ∙ e in
              cond-true (may_stay longest y) (sequence_number_of y == sequence) false kept
              ∙ ne_eqb (sequence_number_of y) sequence (λ same. eqb_apart (sequence_number_of y % places)
              (sequence % places) other (ap (λ (n : ℕ). n % places) same))
          | inr not ↦ cond-false (may_stay longest y) (sequence_number_of y == sequence) false not
        ]

pub newest : Newest
newest places longest sequence sent x e =
    let told = numbered sequence (last_at places longest (sequence % places) sent) x e in
    first_of places longest sequence sent x told.0 told.1

-- what is found is one of the list
among : (p : List ℕ → Bool) (sent : List (List ℕ)) (x : List ℕ) → find p sent ≡ Some x
    → (i : ℕ) × (slice_get sent i ≡ Some x)
among p [] x e = absurd cc
among p (y ∷ ys) x e =
    elim (cases_Bool (p y)) [
      | inl here ↦ (0, sym (cond-true (p y) (Some y) (find p ys) here) ∙ e)
      | inr elsewhere ↦
          let rest = among p ys x (sym (cond-false (p y) (Some y) (find p ys) elsewhere) ∙ e) in
          (suc rest.0, rest.1)
    ]

kept_short : (longest : ℕ) (x : List ℕ) → may_stay longest x ≡ true → length x ≤ longest
kept_short longest x e =
    elim (cases_Bool (nat_le 12 (length x))) [
      | inl long ↦ leb-true (length x) longest
          (sym (cond-true (nat_le 12 (length x)) (nat_le (length x) longest) false long) ∙ e)
      | inr short ↦ absurd cc
    ]

pub sent : FindsSent
sent places longest sequence list x e =
    let remainder = sequence % places in
    let told = numbered sequence (last_at places longest remainder list) x e in
    let at = among (may_stay_at places longest remainder) list x told.0 in
    let kept = kept_at places longest remainder x (find_passes (may_stay_at places longest remainder) list x told.0) in
    record { place = at.0; among = at.1; numbered = told.1; short = kept_short longest x kept }

-- ---- what is kept

-- none of the newer ones takes its place
still_last : (count places longest : ℕ) (newer older : List (List ℕ)) (x : List ℕ) → ArePlaces count places
    → count ≤ 65536 → may_stay longest x ≡ true
    → AreNext (sequence_number_of x) newer → length newer < count
    → last_at places longest (sequence_number_of x % places) (newer ++ x ∷ older) ≡ Some x
still_last count places longest [] older x are small kept next few =
    let at = may_stay_at places longest (sequence_number_of x % places) in
    let yes_it : at x ≡ true = cond-true (may_stay longest x) (sequence_number_of x % places ==
    sequence_number_of x % places) false kept
    ∙ eq-eqb (sequence_number_of x % places) (sequence_number_of x % places) refl in
    cond-true (at x) (Some x) (find at older) yes_it
still_last count places longest (y ∷ ys) older x are small kept next few =
    let s = sequence_number_of x in
    let at = may_stay_at places longest (s % places) in
    let k = length ys + 1 in
    let below : k < places = omega (arith, few, are.enough) in
    let number : sequence_number_of y % places ≡ (s + k) % places =
    ap (λ (n : ℕ). n % places) (next.0 ∙ ap (λ (n : ℕ). n % 65536) (plus_one s (length ys)))
    ∙ remainder_kept count places (s + k) are small in
    let other : sequence_number_of y % places ≡ s % places
    → ⊥ = λ same. other_remainder s k places (omega arith) below (sym number ∙ same) in
    let not_it : at y ≡ false = not_at longest (sequence_number_of y % places) (s % places) y other in
    let lower : length ys < count = omega (arith, few) in
    cond-false (at y) (Some y) (find at (ys ++ x ∷ older)) not_it
    ∙ still_last count places longest ys older x are small kept next.1 lower
  where
    plus_one : (a b : ℕ) → a + b + 1 ≡ a + (b + 1)
    plus_one a b = omega arith

    not_at : (longest r s : ℕ) (y : List ℕ) → (r ≡ s → ⊥) → cond (may_stay longest y) (r == s) false ≡ false
    not_at longest r s y other =
        elim (cases_Bool (may_stay longest y)) [
          | inl is ↦ cond-true (may_stay longest y) (r == s) false is ∙ ne_eqb r s other
          | inr not ↦ cond-false (may_stay longest y) (r == s) false not
        ]

pub kept : StillKept
kept count places longest newer older x are small is next few =
    ap (if_numbered (sequence_number_of x)) (still_last count places longest newer older x are small is next few)
    ∙ cond-true (sequence_number_of x == sequence_number_of x) (Some x) None
    (eq-eqb (sequence_number_of x) (sequence_number_of x) refl)

pub bounded : Bounded
bounded count places are small = few_places count places are small
