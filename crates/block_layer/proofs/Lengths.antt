-- How long a block's text is at most.
use Rattle.std.proofs.Common.{◌≡◌, ℕ, zero, suc, ◌+◌, ◌-◌, ◌*◌, ◌≤◌, Bool, true, false, cond, List, [], ◌∷◌, length, drop, Option, Some, None, refl, subst, arith, length-append, length-drop, eqb}
use Rattle.std.specs.Prelude.{ℤ, pos, negsuc, nat_le, slice_get, option_and_then, not}
use Rattle.std.specs.List.{list_all}
use Rattle.std.proofs.lemmas.Bool.{leb-true}
use Rattle.h263_types.specs.Marks.{is_zero}
use Rattle.h263_bits.proofs.SyntaxLaws.{and_both, length-fields}
use Rattle.code_tables.specs.Tables.{Coefficient, texts_of_last, last_0_texts, last_1_texts, triple_text, word_or_escape, escape_fields, event_text, size_of, sign_text}
use Rattle.block_layer.specs.Text.{none_left, coefficients_of, events_text, levels_text, coded_text, intra_text, inter_text}
use Rattle.block_layer.specs.Laws.{AreBlocksShort}
use Rattle.block_layer.specs.Step.{one_event}
use Rattle.block_layer.proofs.Steps.{intra_length}

-- ---- an event

is_short : List Bool → Bool
is_short w = nat_le (length w) 12

row_short : List (List Bool) → Bool
row_short row = list_all is_short row

all_short : (last : Bool) → list_all row_short (texts_of_last last) ≡ true
unfolding last_0_texts last_1_texts is_short row_short
all_short false = refl
all_short true = refl

at_place : {X : Type 0} (test : X → Bool) (xs : List X) (i : ℕ) (x : X) → list_all test xs ≡ true
    → slice_get xs i ≡ Some x → test x ≡ true
at_place test [] i x all e = cc
at_place {X} test (y ∷ xs) zero x all e =
    let same : y ≡ x = cc in
    let p = and_both (test y) (list_all test xs) all in
    subst (λ (z : X). test z ≡ true) same p.0
at_place test (y ∷ xs) (suc i) x all e = let p = and_both (test y) (list_all test xs) all in at_place test xs i x p.1 e

word_short : (last : Bool) (run size : ℕ) (w : List Bool) → triple_text last run size ≡ Some w → length w ≤ 12
unfolding triple_text is_short row_short
word_short last run size w e = at (slice_get (texts_of_last last) run) refl e
  where
    at : (o : Option (List (List Bool))) → slice_get (texts_of_last last) run ≡ o
        → option_and_then (λ row. slice_get row (size - 1)) o ≡ Some w → length w ≤ 12
    at None is got = cc
    at (Some row) is got =
        let short : row_short row ≡ true = at_place row_short (texts_of_last last) run row (all_short last) is in
        leb-true (length w) 12 (at_place is_short row (size - 1) w short got)

sign_short : (z : ℤ) → length (sign_text z) ≤ 1
sign_short (negsuc n) = omega arith
sign_short (pos n) = at (eqb n 0)
  where
    at : (t : Bool) → length (cond t [] (false ∷ [])) ≤ 1
    at true = omega arith
    at false = omega arith

event_short : (e : Coefficient) → length (event_text e) ≤ 22
unfolding event_text
event_short e = at (triple_text e.last e.run (size_of e.level)) refl
  where
    at : (o : Option (List Bool)) → triple_text e.last e.run (size_of e.level) ≡ o → length (word_or_escape e o) ≤ 22
    at None is = omega (arith, length-fields (escape_fields e))
    at (Some w) is = omega (
      arith,
      word_short e.last e.run (size_of e.level) w is,
      sign_short e.level,
      length-append w (sign_text e.level),
    )

-- ---- a block

events_short : (run : ℕ) (zs : List ℤ) → length (events_text (coefficients_of run zs)) ≤ 22 * length zs
unfolding coefficients_of events_text
events_short run [] = omega arith
events_short run (z ∷ zs) = at (is_zero z) (events_short (run + 1) zs) (events_short 0 zs)
  where
    at : (t : Bool) → length (events_text (coefficients_of (run + 1) zs)) ≤ 22 * length zs
        → length (events_text (coefficients_of 0 zs)) ≤ 22 * length zs
        → length (events_text (cond t (coefficients_of (run + 1) zs)
        (one_event (none_left zs) run z ∷ coefficients_of 0 zs))) ≤ 22
        * length (z ∷ zs)
    at true more again = omega arith
    at false more again = omega (
      arith,
      event_short (one_event (none_left zs) run z),
      length-append (event_text (one_event (none_left zs) run z)) (events_text (coefficients_of 0 zs)),
    )

inter_short : (levels : List ℤ) → length levels ≡ 64 → length (inter_text levels) ≤ 64 * 22
unfolding inter_text levels_text
inter_short levels long = omega (arith, events_short 0 levels)

coded_short : (levels : List ℤ) → length levels ≡ 64 → length (coded_text levels) ≤ 63 * 22
unfolding levels_text
coded_short levels long = at (none_left (drop 1 levels))
  where
    at : (t : Bool) → length (cond (not t) (events_text (coefficients_of 0 (drop 1 levels))) []) ≤ 63 * 22
    at true = omega arith
    at false = omega (arith, events_short 0 (drop 1 levels), length-drop 1 levels)

intra_short : (levels : List ℤ) → length levels ≡ 64 → length (intra_text levels) ≤ 8 + 63 * 22
intra_short levels long = omega (arith, intra_length levels, coded_short levels long)

-- how many bits the texts of a block have at most
pub are_short : AreBlocksShort
are_short = record { intra = intra_short; inter = inter_short }
