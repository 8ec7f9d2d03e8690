-- The code's places of events are the standard's rows.
use mir.Val.{SFits}
use Rattle.std.proofs.lemmas.Int.{ints}
use Rattle.h263_bits.specs.Bits.{fields}
use Rattle.h263_bits.proofs.SyntaxLaws.{length-fields, and_both}
use Rattle.std.proofs.Common.{w8, ◌++◌, ◌≡◌, ℕ, zero, suc, ◌+◌, ◌-◌, ◌<◌, ◌≤◌, Bool, true, false, refl, ap, sym, ◌∙◌, arith, inl, inr, List, [], ◌∷◌, length, take, drop, get_or, Option, Some, None, ltb, length-take, length-drop}
use Rattle.std.specs.Prelude.{map, slice_get, ℤ, pos, negsuc, option_and_then, min}
use Rattle.std.specs.Option.{option_map}
use Rattle.std.specs.List.{list_all}
use Rattle.std.proofs.lemmas.Bool.{cases_lt, lt-ltb, le-ltb, ltb-true}
use Rattle.std.proofs.lemmas.List.{get_or-map, get_or-take, get_or-drop, length-map}
use Rattle.std.proofs.lemmas.Option.{slice_get-get_or, slice_get_past}
use Rattle.h263_bits.specs.Bits.{spelled}
use Rattle.code_tables.specs.declared.code.Code.{Code}
use Rattle.code_tables.specs.declared.event_tables.TheConstants.{EVENTS}
use Rattle.code_tables.specs.Words.{code_at, word_of, place_in, cut_rows}
use Rattle.code_tables.specs.Starts.{starts_of}
use Rattle.code_tables.specs.Tables.{texts_of_last, last_0_texts, last_1_texts, triple_text, Coefficient, size_of, sign_text, escape_fields, event_text}

row_is : (starts : List ℕ) (texts : List (List Bool)) (run : ℕ) → run + 1 < length starts
    → slice_get (cut_rows starts texts) run
    ≡ Some (take (get_or starts (run + 1) 0 - get_or starts run 0) (drop (get_or starts run 0) texts))
row_is [] texts run lt = absurd (omega arith)
row_is (a ∷ []) texts run lt = absurd (omega arith)
row_is (a ∷ b ∷ starts) texts zero lt = refl
row_is (a ∷ b ∷ starts) texts (suc run) lt =
    let e : suc run + 1 ≡ suc (run + 1) = omega arith in
    rw e (row_is (b ∷ starts) texts run (omega arith))

rows_end : (starts : List ℕ) (texts : List (List Bool)) (run : ℕ) → length starts ≤ run + 1
    → slice_get (cut_rows starts texts) run ≡ None
rows_end [] texts run le = refl
rows_end (a ∷ []) texts run le = refl
rows_end (a ∷ b ∷ starts) texts zero le = absurd (omega arith)
rows_end (a ∷ b ∷ starts) texts (suc run) le = rows_end (b ∷ starts) texts run (omega arith)

-- each row ends within the table
ends : (bound : ℕ) (starts : List ℕ) (i : ℕ) → list_all (λ s. ltb s bound) starts ≡ true → i < length starts
    → get_or starts i 0 < bound
ends bound [] i all lt = absurd (omega arith)
ends bound (s ∷ starts) zero all lt =
    ltb-true s bound (and_both (ltb s bound) (list_all (λ t. ltb t bound) starts) all).0
ends bound (s ∷ starts) (suc i) all lt =
    ends bound starts i (and_both (ltb s bound) (list_all (λ t. ltb t bound) starts) all).1 (omega arith)

abbrev none : Code
none = record { bits = 0; len = 0 }

-- the word at a place of a row
in_row : (codes : List Code) (a b i : ℕ) → a + i < b → b ≤ length codes
    → slice_get (take (b - a) (drop a (map word_of codes))) i ≡ Some (word_of (code_at codes (a + i)))
in_row codes a b i lt le =
    let texts : List (List Bool) = map word_of codes in
    let long : length (drop a texts) ≡ length texts - a = length-drop a texts in
    let whole : length (take (b - a) (drop a texts)) ≡ min (b - a) (length (drop a texts)) =
    length-take (b - a) (drop a texts) in
    let all : length texts ≡ length codes = length-map codes word_of in
    slice_get-get_or (take (b - a) (drop a texts)) i [] (omega (arith, long, whole, all))
    ∙ ap Some (get_or-take (b - a) (drop a texts) i [] (omega arith) ∙ get_or-drop a texts i []
    ∙ get_or-map word_of codes (a + i) none [] (omega arith))

past_row : (texts : List (List Bool)) (a b i : ℕ) → b ≤ a + i → slice_get (take (b - a) (drop a texts)) i ≡ None
past_row texts a b i le = slice_get_past (take (b - a) (drop a texts)) i
    (let whole : length (take (b - a) (drop a texts)) ≡ min (b - a) (length (drop a texts)) =
    length-take (b - a) (drop a texts) in omega (arith, whole))

placed : (codes : List Code) (starts : List ℕ) (run size : ℕ) → list_all (λ s. ltb s (length codes)) starts ≡ true
    → 0 < size → option_map (λ p. word_of (code_at codes p)) (place_in starts run size)
    ≡ option_and_then (λ row. slice_get row (size - 1)) (slice_get (cut_rows starts (map word_of codes)) run)
placed codes starts run size within some =
    elim (cases_lt (run + 1) (length starts)) [
      | inr past ↦ rw (le-ltb (run + 1) (length starts) past, rows_end starts (map word_of codes) run past) refl
      | inl inside ↦
          let a : ℕ = get_or starts run 0 in
          let b : ℕ = get_or starts (run + 1) 0 in
          let bound : b < length codes = ends (length codes) starts (run + 1) within inside in
          elim (cases_lt (get_or starts run 0 + size - 1) (get_or starts (run + 1) 0)) [
            | inl lt ↦
                let same : get_or starts run 0 + (size - 1) ≡ get_or starts run 0 + size - 1 = omega arith in
                rw (
                  lt-ltb (run + 1) (length starts) inside,
                  row_is starts (map word_of codes) run inside,
                  lt-ltb (get_or starts run 0 + size - 1) (get_or starts (run + 1) 0) lt,
                )
                (sym (in_row codes (get_or starts run 0) (get_or starts (run + 1) 0) (size - 1) (omega arith)
                (omega arith) ∙ ap (λ (p : ℕ). let o : Option (List Bool) = Some (word_of (code_at codes p)) in
                o) same))
            | inr le ↦
                rw (
                  lt-ltb (run + 1) (length starts) inside,
                  row_is starts (map word_of codes) run inside,
                  le-ltb (get_or starts run 0 + size - 1) (get_or starts (run + 1) 0) le,
                )
                (sym (past_row (map word_of codes) (get_or starts run 0) (get_or starts (run + 1) 0) (size - 1)
                (omega arith)))
          ]
    ]

same_rows : (last : Bool) → texts_of_last last ≡ cut_rows (starts_of last) (map word_of EVENTS)
unfolding last_0_texts last_1_texts spelled
same_rows false = refl
same_rows true = refl

in_bounds : (last : Bool) → list_all (λ s. ltb s 103) (starts_of last) ≡ true
in_bounds false = refl
in_bounds true = refl

-- the word at the place of a triple is the triple's word
pub triple_placed : (last : Bool) (run size : ℕ) → 0 < size
    → option_map (λ p. word_of (code_at EVENTS p)) (place_in (starts_of last) run size) ≡ triple_text last run size
unfolding triple_text
triple_placed last run size some =
    placed EVENTS (starts_of last) run size (in_bounds last) some
    ∙ ap (λ (rows : List (List (List Bool))). option_and_then (λ row. slice_get row (size - 1)) (slice_get rows run))
    (sym (same_rows last))

-- a place is one of the table
pub triple_below : (last : Bool) (run size p : ℕ) → place_in (starts_of last) run size ≡ Some p → p < 103
triple_below last run size p e =
    elim (cases_lt (run + 1) (length (starts_of last))) [
      | inr past ↦ absurd (not_some p (sym (rw (le-ltb (run + 1) (length (starts_of last)) past) refl) ∙ e))
      | inl inside ↦
          elim (cases_lt (get_or (starts_of last) run 0 + size - 1) (get_or (starts_of last) (run + 1) 0)) [
            | inl lt ↦
                let is : place_in (starts_of last) run size ≡ Some (get_or (starts_of last) run 0 + size - 1) =
                rw (
                  lt-ltb (run + 1) (length (starts_of last)) inside,
                  lt-ltb (get_or (starts_of last) run 0 + size - 1) (get_or (starts_of last) (run + 1) 0) lt,
                ) refl in
                let same : get_or (starts_of last) run 0 + size - 1 ≡ p = some_is _ _ (sym is ∙ e) in
                let bound : get_or (starts_of last) (run + 1) 0 < 103 = ends 103 (starts_of last) (run + 1)
                (in_bounds last) inside in
                omega arith
            | inr le ↦
                let is : place_in (starts_of last) run size
                ≡ None = rw (
                  lt-ltb (run + 1) (length (starts_of last)) inside,
                  le-ltb (get_or (starts_of last) run 0 + size - 1) (get_or (starts_of last) (run + 1) 0) le,
                ) refl in
                absurd (not_some p (sym is ∙ e))
          ]
    ]
  where
    not_some : (p : ℕ) → (let o : Option ℕ = None in o) ≡ Some p → ⊥
    not_some p e = cc

    some_is : (x y : ℕ) → (let o : Option ℕ = Some x in o) ≡ Some y → x ≡ y
    some_is x y e = cc

-- an event that has a word is written as the word and its sign
pub event_word : (e : Coefficient) (n p : ℕ) → n ≡ size_of e.level → 0 < size_of e.level
    → place_in (starts_of e.last) e.run n ≡ Some p → word_of (code_at EVENTS p) ++ sign_text e.level ≡ event_text e
unfolding event_text
event_word e n p same some at =
    let placed_at : place_in (starts_of e.last) e.run (size_of e.level)
    ≡ Some p = sym (ap (place_in (starts_of e.last) e.run) same) ∙ at in
    let text : triple_text e.last e.run (size_of e.level) ≡ Some (word_of (code_at EVENTS p)) =
    sym (triple_placed e.last e.run (size_of e.level) some)
    ∙ ap (option_map (λ k. word_of (code_at EVENTS k))) placed_at in
    rw text refl

-- and any other as an escape
pub event_escape : (e : Coefficient) (n : ℕ) → n ≡ size_of e.level → 0 < size_of e.level
    → place_in (starts_of e.last) e.run n ≡ None → fields (escape_fields e) ≡ event_text e
unfolding event_text
event_escape e n same some at =
    let placed_at : place_in (starts_of e.last) e.run (size_of e.level)
    ≡ None = sym (ap (place_in (starts_of e.last) e.run) same) ∙ at in
    let text : triple_text e.last e.run (size_of e.level) ≡ None =
    sym (triple_placed e.last e.run (size_of e.level) some)
    ∙ ap (option_map (λ k. word_of (code_at EVENTS k))) placed_at in
    rw text refl

pub level_fits : (z : ℤ) → size_of z < 128 → SFits w8 z
level_fits (pos n) lt = omega (arith, ints)
level_fits (negsuc n) lt = omega (arith, ints)

pub escape_length : (e : Coefficient) → length (fields (escape_fields e)) ≡ 22
escape_length e = length-fields (escape_fields e)
