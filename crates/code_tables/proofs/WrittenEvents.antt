-- What is written for an event is a text of it.
use Rattle.std.proofs.lemmas.List.{append-nil}
use Rattle.std.proofs.lemmas.Bool.{ne_eqb, lt-ltb, le-ltb}
use Rattle.std.proofs.Common.{◌≡◌, ℕ, zero, suc, ◌+◌, ◌-◌, ◌<◌, Bool, true, false, refl, ap, sym, ◌∙◌, subst, arith, inl, inr, List, [], ◌∷◌, ◌++◌, eqb, Option, Some, None}
use Rattle.std.specs.Prelude.{ℤ, pos, negsuc, slice_get, option_and_then}
use Rattle.h263_bits.specs.Bits.{spelled, fields}
use Rattle.h263_bits.specs.Syntax.{Spells, IsIn, any, done}
use Rattle.h263_bits.proofs.SyntaxLaws.{spells_code, spells_done, spells_field, spells_element, spells_whole}
use Rattle.code_tables.specs.Laws.{AreTablesSpelt}
use Rattle.code_tables.specs.Words.{word}
use Rattle.code_tables.proofs.Written.{mcbpc_written, cbpy_written, dquant_written, mvd_written}
use Rattle.code_tables.specs.Tables.{TableEvent, Coefficient, sized, from_runs, last_0_texts, last_1_texts, tcoef_words, event_table, after_word, event_parts, event, signed, allowed_level, escaped_level, texts_of_last, triple_text, byte_of, bit_of, escape_fields, word_or_escape, event_text, IsEvent, size_of, sign_text}

in_left : {X : Type 0} (x : X) (xs ys : List X) → IsIn x xs → IsIn x (xs ++ ys)
in_left x (z ∷ xs) ys (inl e) = inl e
in_left x (z ∷ xs) ys (inr h) = inr (in_left x xs ys h)
in_left x [] ys h = absurd h

in_right : {X : Type 0} (x : X) (xs ys : List X) → IsIn x ys → IsIn x (xs ++ ys)
in_right x [] ys h = h
in_right x (z ∷ xs) ys h = inr (in_right x xs ys h)

-- what a word of a row stands for
abbrev stands : Bool → ℕ → ℕ → Option TableEvent
stands last run size = Some (record { last = last; run = run; size = size })

in_row_words : (last : Bool) (run k i : ℕ) (row : List (List Bool)) (w : List Bool) → slice_get row i ≡ Some w
    → IsIn (w, stands last run (k + i)) (sized last run k row)
in_row_words last run k i [] w e = cc
in_row_words last run k zero (t ∷ row) w e =
    let same : t ≡ w = cc in
    let size : k ≡ k + 0 = omega arith in
    inl (ap (λ (u : List Bool). (u, stands last run k)) same ∙ ap (λ (n : ℕ). (w, stands last run n)) size)
in_row_words last run k (suc i) (t ∷ row) w e =
    let size : k + 1 + i ≡ k + suc i = omega arith in
    inr (subst (λ (n : ℕ). IsIn (w, stands last run n) (sized last run (k + 1) row)) size
    (in_row_words last run (k + 1) i row w e))

in_runs : (last : Bool) (k run i : ℕ) (rows : List (List (List Bool))) (row : List (List Bool)) (w : List Bool)
    → slice_get rows run ≡ Some row → slice_get row i ≡ Some w
    → IsIn (w, stands last (k + run) (1 + i)) (from_runs last k rows)
in_runs last k run i [] row w at e = cc
in_runs last k zero i (r ∷ rows) row w at e =
    let same : r ≡ row = cc in
    let first : slice_get r i ≡ Some w = ap (λ (s : List (List Bool)). slice_get s i) same ∙ e in
    let number : k ≡ k + 0 = omega arith in
    in_left _ (sized last k 1 r) (from_runs last (k + 1) rows)
    (subst (λ (n : ℕ). IsIn (w, stands last n (1 + i)) (sized last k 1 r)) number
    (in_row_words last k 1 i r w first))
in_runs last k (suc run) i (r ∷ rows) row w at e =
    let number : k + 1 + run ≡ k + suc run = omega arith in
    in_right _ (sized last k 1 r) (from_runs last (k + 1) rows)
    (subst (λ (n : ℕ). IsIn (w, stands last n (1 + i)) (from_runs last (k + 1) rows)) number
    (in_runs last (k + 1) run i rows row w at e))

-- the words of a LAST are among all
in_all : (last : Bool) (x : List Bool × Option TableEvent) → IsIn x (from_runs last 0 (texts_of_last last))
    → IsIn x tcoef_words
unfolding tcoef_words
in_all false x h = in_left x (from_runs false 0 last_0_texts ++ from_runs true 0 last_1_texts)
    ((word "0000011", None) ∷ []) (in_left x (from_runs false 0 last_0_texts) (from_runs true 0 last_1_texts) h)
in_all true x h = in_left x (from_runs false 0 last_0_texts ++ from_runs true 0 last_1_texts)
    ((word "0000011", None) ∷ []) (in_right x (from_runs false 0 last_0_texts) (from_runs true 0 last_1_texts) h)

escape_in : IsIn (word "0000011", None) tcoef_words
unfolding tcoef_words
escape_in = in_right (word "0000011", None) (from_runs false 0 last_0_texts ++ from_runs true 0 last_1_texts)
    ((word "0000011", None) ∷ []) (inl refl)

-- the word of a triple is in the table
triple_in : (last : Bool) (run size : ℕ) (w : List Bool) → 0 < size → triple_text last run size ≡ Some w
    → IsIn (w, stands last run size) tcoef_words
unfolding triple_text
triple_in last run size w some e = go (slice_get (texts_of_last last) run) refl e
  where
    go : (o : Option (List (List Bool))) → slice_get (texts_of_last last) run ≡ o
        → option_and_then (λ row. slice_get row (size - 1)) o ≡ Some w → IsIn (w, stands last run size) tcoef_words
    go None at got = cc
    go (Some row) at got =
        let number : 0 + run ≡ run = omega arith in
        let whole : 1 + (size - 1) ≡ size = omega arith in
        in_all last (w, stands last run size)
        (subst (λ (n : ℕ). IsIn (w, stands last n size) (from_runs last 0 (texts_of_last last))) number
        (subst (λ (n : ℕ). IsIn (w, stands last (0 + run) n) (from_runs last 0 (texts_of_last last))) whole
        (in_runs last 0 run (size - 1) (texts_of_last last) row w at got)))

-- ---- a word with its sign

abbrev with_level : Bool → ℕ → ℤ → Coefficient
with_level last run level = record { last = last; run = run; level = level }

one_sign : (last : Bool) (run size sign : ℕ) (level : ℤ) (text : List Bool) → sign < 2 → spelled 1 sign ≡ text
    → level ≡ signed sign size → Spells (after_word (stands last run size)) (with_level last run level) text
one_sign last run size sign level text lt same is =
    spells_whole (after_word (stands last run size)) (with_level last run level) (spelled 1 sign
    ++ []) text (append-nil _ ∙ same)
    (spells_field 1 any (λ s. done (with_level last run (signed s size))) (with_level last run level) sign [] lt refl
    (subst (λ (z : ℤ). Spells (done (with_level last run z)) (with_level last run level) []) is
    (spells_done (with_level last run level))))

signed_level : (last : Bool) (run : ℕ) (level : ℤ) → 0 < size_of level
    → Spells (after_word (stands last run (size_of level))) (with_level last run level) (sign_text level)
unfolding spelled
signed_level last run (pos zero) some = absurd (omega arith)
signed_level last run (pos (suc n)) some =
    let not_zero : eqb (suc n) 0 ≡ false = ne_eqb (suc n) 0 (λ (e : suc n ≡ 0). omega (arith, e)) in
    let text : sign_text (pos (suc n)) ≡ false ∷ [] = rw not_zero refl in
    subst (λ (t : List Bool). Spells (after_word (stands last run (suc n))) (with_level last run (pos (suc n))) t)
    (sym text) (one_sign last run (suc n) 0 (pos (suc n)) (false ∷ []) (omega arith) refl refl)
signed_level last run (negsuc n) some = one_sign last run (suc n) 1 (negsuc n) (true ∷ []) (omega arith) refl refl

-- ---- an escape

level_back : (z : ℤ) → 0 < size_of z → size_of z < 128 → (z ≡ escaped_level (byte_of z))
    × (allowed_level (byte_of z) ≡ None)
    × (byte_of z < 256)
level_back (pos n) some lt =
    let a : eqb n 0 ≡ false = ne_eqb n 0 (λ (e : n ≡ 0). omega (arith, e)) in
    let b : eqb n 128 ≡ false = ne_eqb n 128 (λ (e : n ≡ 128). omega (arith, e)) in
    (rw (lt-ltb n 128 lt) refl, rw (a, b) refl, omega arith)
level_back (negsuc n) some lt =
    let a : eqb (255 - n) 0 ≡ false = ne_eqb (255 - n) 0 (λ (e : 255 - n ≡ 0). omega (arith, e)) in
    let b : eqb (255 - n) 128 ≡ false = ne_eqb (255 - n) 128 (λ (e : 255 - n ≡ 128). omega (arith, e)) in
    let size : 256 - (255 - n) ≡ suc n = omega arith in
    (rw (le-ltb (255 - n) 128 (omega arith), size) refl, rw (a, b) refl, omega arith)

last_back : (last : Bool) → last ≡ eqb (bit_of last) 1
last_back true = refl
last_back false = refl

bit_small : (last : Bool) → bit_of last < 2
bit_small true = omega arith
bit_small false = omega arith

escape_spelled : (e : Coefficient) → IsEvent e → Spells event_parts e (fields (escape_fields e))
unfolding event_parts event_table spelled
escape_spelled e is =
    let back = level_back e.level is.some is.level in
    let same : e ≡ record { last = eqb (bit_of e.last) 1; run = e.run; level = escaped_level (byte_of e.level) } =
    ap (λ (b : Bool). with_level b e.run e.level) (last_back e.last)
    ∙ ap (λ (z : ℤ). with_level (eqb (bit_of e.last) 1) e.run z) back.0 in
    spells_code event_table after_word e (word "0000011") None _ escape_in
    (spells_field 1 any _ e (bit_of e.last) _ (bit_small e.last) refl
    (spells_field 6 any _ e e.run _ is.run refl
    (spells_field 8 allowed_level _ e (byte_of e.level) [] back.2 back.1
    (subst (λ (f : Coefficient). Spells (done f) e []) same (spells_done e)))))

word_spelled : (e : Coefficient) → IsEvent e → (w : List Bool) → triple_text e.last e.run (size_of e.level) ≡ Some w
    → Spells event_parts e (w ++ sign_text e.level)
unfolding event_parts event_table
word_spelled e is w at =
    spells_code event_table after_word e w (stands e.last e.run (size_of e.level)) (sign_text e.level)
    (triple_in e.last e.run (size_of e.level) w is.some at) (signed_level e.last e.run e.level is.some)

-- ---- both

parts_written : (e : Coefficient) → IsEvent e → Spells event_parts e (event_text e)
unfolding event_text
parts_written e is = go (triple_text e.last e.run (size_of e.level)) refl
  where
    go : (o : Option (List Bool)) → triple_text e.last e.run (size_of e.level) ≡ o
        → Spells event_parts e (word_or_escape e o)
    go None at = escape_spelled e is
    go (Some w) at = word_spelled e is w at

pub event_written : (e : Coefficient) → IsEvent e → Spells event e (event_text e)
unfolding event
event_written e is =
    spells_whole event e (event_text e ++ []) _ (append-nil _) (spells_element event_parts any (λ f. done f) e e
    (event_text e) [] (parts_written e is) refl (spells_done e))

-- the texts that are written of the events spell them
pub are_spelt : AreTablesSpelt
are_spelt = record {
  mcbpc = mcbpc_written;
  cbpy = cbpy_written;
  dquant = dquant_written;
  mvd = mvd_written;
  event = event_written;
}
