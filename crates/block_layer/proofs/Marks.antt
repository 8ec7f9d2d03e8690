-- The events that the marks of a block give.
use Rattle.std.proofs.Common.{◌≡◌, ℕ, zero, suc, ◌+◌, ◌*◌, ◌/◌, ◌^◌, ◌<◌, Bool, true, false, cond, List, [], ◌∷◌, ◌++◌, drop, length, refl, sym, ap, ◌∙◌, subst, arith, add-one, append_assoc, eqb, not, length-drop, length-append}
use Rattle.std.specs.Prelude.{ℤ, pos, ◌&&◌}
use Rattle.std.specs.List.{prefix_len}
use Rattle.std.proofs.Math.Nat.{pow-succ', div-div-eq-div-mul, zero-div}
use Rattle.std.proofs.lemmas.Bool.{ne_eqb}
use Rattle.std.proofs.lemmas.List.{drop-drop, get_or-drop}
use Rattle.std.proofs.lemmas.List.Sums.{prefix_len_stops}
use Rattle.std.proofs.lemmas.Simd.{trailing_mask_l}
use lib.Count.{count_trailing_zeros}
use Rattle.h263_types.specs.Marks.{is_zero, marks_of}
use Rattle.code_tables.specs.Tables.{Coefficient, event_text}
use Rattle.block_layer.specs.Text.{none_left, coefficients_of, events_text}
use Rattle.block_layer.specs.Step.{level_in_list, one_event}
use Rattle.block_layer.proofs.Steps.{left_text}

-- ---- after the first ones

one_after : (b : Bool) (n : ℕ) → (cond b 1 0 + 2 * n) / 2 ≡ n
one_after true n = omega arith
one_after false n = omega arith

pub after_one : (z : ℤ) (levels : List ℤ) → marks_of (z ∷ levels) / 2 ≡ marks_of levels
unfolding marks_of
after_one z levels = one_after (not (is_zero z)) (marks_of levels)

-- a shift leaves the marks of the levels after the first k
pub marks_after : (k : ℕ) (levels : List ℤ) → marks_of levels / 2 ^ k ≡ marks_of (drop k levels)
unfolding marks_of
marks_after zero levels = omega arith
marks_after (suc k) [] = zero-div (2 ^ suc k)
marks_after (suc k) (z ∷ levels) =
    ap (λ (n : ℕ). marks_of (z ∷ levels) / n) (pow-succ' 2 k)
    ∙ sym (div-div-eq-div-mul (marks_of (z ∷ levels)) 2 (2 ^ k))
    ∙ ap (λ (n : ℕ). n / 2 ^ k) (after_one z levels)
    ∙ marks_after k levels

-- there is no mark where no level is left
twice : (n : ℕ) → eqb (0 + 2 * n) 0 ≡ eqb n 0
twice zero = refl
twice (suc n) = ne_eqb (0 + 2 * suc n) 0 (λ e. omega (arith, e)) ∙ sym (ne_eqb (suc n) 0 (λ e. omega (arith, e)))

-- no place is marked exactly where no level is left
pub none_marked : (levels : List ℤ) → eqb (marks_of levels) 0 ≡ none_left levels
unfolding marks_of
none_marked [] = refl
none_marked (z ∷ levels) = at (is_zero z) (none_marked levels)
  where
    at : (t : Bool) → eqb (marks_of levels) 0 ≡ none_left levels → eqb (cond (not t) 1 0 + 2 * marks_of levels) 0
        ≡ (t && none_left levels)
    at true more = twice (marks_of levels) ∙ more
    at false more = ne_eqb (1 + 2 * marks_of levels) 0 (λ e. omega (arith, e))

-- ---- the first of them

abbrev is_passed : ℤ → Bool
is_passed z = not (not (is_zero z))

-- after k zeros the first event is that of the level there
record First (run k : ℕ) (levels : List ℤ) : Type 0 where
  inside : k < length levels
  events : coefficients_of run levels ≡ one_event (none_left (drop (suc k) levels)) (run + k) (level_in_list levels k) ∷
      coefficients_of
      0 (drop (suc k) levels)

first_event : (run k : ℕ) (levels : List ℤ) → none_left levels ≡ false → prefix_len is_passed levels ≡ k
    → First run k levels
unfolding coefficients_of
first_event run k [] some e = absurd cc
first_event run k (z ∷ levels) some e =
    let first = at (is_zero z) k e some (λ k' some' e'. first_event (run + 1) k' levels some' e') in
    record { inside = first.0; events = first.1 }
  where
    at : (t : Bool) → (k : ℕ) → cond (not (not t)) (1 + prefix_len is_passed levels) 0 ≡ k → (t && none_left levels)
        ≡ false
        → ((k : ℕ) → none_left levels ≡ false → prefix_len is_passed levels ≡ k → First (run + 1) k levels)
        → (k < suc (length levels))
        × (cond t (coefficients_of (run + 1) levels) (one_event (none_left levels) run z ∷ coefficients_of 0 levels)
        ≡ one_event (none_left (drop k levels)) (run + k) (level_in_list (z ∷ levels) k) ∷ coefficients_of 0
        (drop k levels))
    at true zero e some more = absurd (omega (arith, e))
    at true (suc k) e some more =
        let first = more k some (omega (arith, e)) in (
          omega (arith, first.inside),
          first.events
              ∙ ap (λ (r : ℕ). one_event (none_left (drop (suc k) levels)) r (level_in_list levels k) ∷ coefficients_of
              0
              (drop (suc k) levels)) (omega arith),
        )
    at false zero e some more = (
      omega arith,
      ap (λ (r : ℕ). one_event (none_left levels) r z ∷ coefficients_of 0 levels)
          (omega arith),
    )
    at false (suc k) e some more = absurd (omega (arith, e))

-- ---- the next level

-- what stands after `run` zeros from `place` on, where `left` has the marks of the levels from there on: a
-- level that isn't 0,
-- with its event
pub record Next (place run left : ℕ) (levels : List ℤ) : Type 0 where
  pub inside : place + run < 64
  pub some : is_zero (level_in_list levels (place + run)) ≡ false
  pub marked : left / 2 ^ run / 2 ≡ marks_of (drop (place + run + 1) levels)
  pub last : eqb (left / 2 ^ run / 2) 0 ≡ none_left (drop (place + run + 1) levels)
  pub text : left_text 0 place levels
      ≡ event_text (one_event (eqb (left / 2 ^ run / 2) 0) run (level_in_list levels (place + run)))
      ++ left_text 0 (place + run + 1) levels
  pub length : length (left_text 0 place levels)
      ≡ length (event_text (one_event (eqb (left / 2 ^ run / 2) 0) run (level_in_list levels (place + run)))) + length
      (left_text 0 (place + run + 1) levels)

not_passed : (b : Bool) → not (not b) ≡ false → b ≡ false
not_passed false e = refl
not_passed true e = e

module _ (place run left : ℕ) (levels : List ℤ) (long : length levels ≡ 64) (marks : left
    ≡ marks_of (drop place levels)) (some : left ≡ 0 → ⊥) (zeros : run ≡ count_trailing_zeros 64 left) where
  is_some : none_left (drop place levels) ≡ false
  is_some = sym (none_marked (drop place levels)) ∙ ne_eqb (marks_of (drop place levels)) 0 (λ e. some (marks ∙ e))

  prefix : prefix_len is_passed (drop place levels) ≡ run
  unfolding marks_of
  prefix =
      sym (trailing_mask_l (λ z. not (is_zero z)) 64 (drop place levels) (omega (arith, length-drop place levels))
      (subst (λ (n : ℕ). 0 < n) marks (omega (arith, some))))
      ∙ ap (count_trailing_zeros 64) (sym marks)
      ∙ sym zeros

  first : First 0 run (drop place levels)
  first = first_event 0 run (drop place levels) is_some prefix

  rest_is : drop (suc run) (drop place levels) ≡ drop (place + run + 1) levels
  rest_is = drop-drop (suc run) place levels ∙ ap (λ (n : ℕ). drop n levels) (omega arith)

  there : is_zero (level_in_list levels (place + run)) ≡ false
  there =
      let inside : prefix_len is_passed (drop place levels) < length (drop place levels) = omega (
        arith,
        first.inside,
        prefix,
      ) in
      not_passed (is_zero (level_in_list levels (place + run)))
      (ap (λ (z : ℤ). is_passed z) (sym (get_or-drop place levels run (pos 0)))
      ∙ ap (λ (n : ℕ). is_passed (level_in_list (drop place levels) n)) (sym prefix)
      ∙ prefix_len_stops is_passed (drop place levels) (pos 0) inside)

  marked : left / 2 ^ run / 2 ≡ marks_of (drop (place + run + 1) levels)
  marked =
      ap (λ (n : ℕ). n / 2 ^ run / 2) marks
      ∙ ap (λ (n : ℕ). n / 2) (marks_after run (drop place levels))
      ∙ marks_after 1 (drop run (drop place levels))
      ∙ ap (λ (l : List ℤ). marks_of l) (drop-drop 1 run (drop place levels)
      ∙ ap (λ (n : ℕ). drop n (drop place levels)) (add-one run) ∙ rest_is)

  last : eqb (left / 2 ^ run / 2) 0 ≡ none_left (drop (place + run + 1) levels)
  last = ap (λ (n : ℕ). eqb n 0) marked ∙ none_marked (drop (place + run + 1) levels)

  text : left_text 0 place levels
      ≡ event_text (one_event (eqb (left / 2 ^ run / 2) 0) run (level_in_list levels (place + run)))
      ++ left_text 0 (place + run + 1) levels
  unfolding events_text
  text =
      ap events_text first.events
      ∙ ap (λ (l : List ℤ). event_text (one_event (none_left l) (0 + run) (level_in_list (drop place levels) run))
      ++ events_text (coefficients_of 0 l)) rest_is
      ∙ ap (λ (b : Bool). event_text (one_event b (0 + run) (level_in_list (drop place levels) run))
      ++ left_text 0 (place + run + 1) levels) (sym last)
      ∙ ap (λ (n : ℕ). event_text (one_event (eqb (left / 2 ^ run / 2) 0) n (level_in_list (drop place levels) run))
      ++ left_text 0 (place + run + 1) levels) (omega arith)
      ∙ ap (λ (z : ℤ). event_text (one_event (eqb (left / 2 ^ run / 2) 0) run z)
      ++ left_text 0 (place + run + 1) levels) (get_or-drop place levels run (pos 0))

  one : Coefficient
  one = one_event (eqb (left / 2 ^ run / 2) 0) run (level_in_list levels (place + run))

  pub next : Next place run left levels
  unfolding one
  next = record {
    inside = omega (arith, first.inside, length-drop place levels);
    some = there;
    marked = marked;
    last = last;
    text = text;
    length = ap length text
        ∙ length-append (event_text one) (left_text 0 (place + run + 1) levels);
  }

-- with the text of the others, all is written
pub goes : (place run left : ℕ) (levels : List ℤ) (old new all : List Bool) → Next place run left levels
    → new ≡ old ++ event_text (one_event (eqb (left / 2 ^ run / 2) 0) run (level_in_list levels (place + run)))
    → old ++ left_text 0 place levels ≡ all
    → new ++ left_text 0 (place + run + 1) levels ≡ all
goes place run left levels old new all is wrote before =
    ap (λ (l : List Bool). l ++ left_text 0 (place + run + 1) levels) wrote
    ∙ append_assoc old (event_text (one_event (eqb (left / 2 ^ run / 2) 0) run (level_in_list levels (place + run))))
    (left_text 0 (place + run + 1) levels)
    ∙ ap (λ (l : List Bool). old ++ l) (sym is.text)
    ∙ before

pub none_next : (place left : ℕ) (levels : List ℤ) → left ≡ marks_of (drop place levels) → left ≡ 0
    → none_left (drop place levels) ≡ true
none_next place left levels marked none = sym (none_marked (drop place levels)) ∙ ap (λ (n : ℕ). eqb n 0) (sym marked
    ∙ none)
