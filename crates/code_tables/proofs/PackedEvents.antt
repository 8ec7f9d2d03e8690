-- Events as one number: each row of the tables has the word that its prefix begins with, and what the word stands for.
use Rattle.std.proofs.Common.{◌≡◌, ◌+◌, ◌/◌, ◌^◌, ◌<◌, ◌≤◌, ℕ, zero, suc, Bool, true, false, cond, eqb, List, [], ◌∷◌, length, get_or, Option, Some, None, refl, sym, subst, arith, add-zero, zero-add}
use Rattle.std.specs.Prelude.{◌&&◌, ◌||◌, not, slice_get}
use Rattle.std.proofs.lemmas.Bool.{eqb-true, ne_eqb}
use Rattle.h263_bits.proofs.SyntaxLaws.{and_both}
use Rattle.code_tables.specs.declared.code.Level.{Level}
use Rattle.code_tables.specs.declared.event_tables.TheConstants.{EVENTS, LEVELS, SHORT_EVENTS, LONG_EVENTS}
use Rattle.code_tables.specs.Words.{starts, code_at, place_in}
use Rattle.code_tables.specs.Starts.{starts_of}
use Rattle.code_tables.specs.Tables.{TableEvent}
use Rattle.code_tables.specs.Events.{event_of_code}
use Rattle.code_tables.specs.Seen.{IsWordIn}
use Rattle.code_tables.specs.Packed.{packed_len, packed_last, packed_run, packed_size, is_meant, is_packed_at, is_packed, are_packed}
use Rattle.code_tables.proofs.Search.{starts_more, both_and}
use Rattle.code_tables.proofs.Rows.{triple_below}
use Rattle.code_tables.proofs.SeenEvents.{event_at, named_word, word_short}

-- ---- the tables, row by row

pub short_events : are_packed 8 0 SHORT_EVENTS ≡ true
short_events = refl

pub long_events : are_packed 12 0 LONG_EVENTS ≡ true
long_events = refl

some_packed : (width front p : ℕ) → (p ≡ 0 → ⊥) → (eqb p 0 || is_packed width front p) ≡ true → is_packed width front p
    ≡ true
some_packed width front p some e = rw (ne_eqb p 0 some) at e

packed_from : (width k i : ℕ) (ps : List ℕ) → are_packed width k ps ≡ true → i < length ps → (get_or ps i 0 ≡ 0 → ⊥)
    → is_packed width (k + i) (get_or ps i 0) ≡ true
packed_from width k i [] all lt some = absurd (omega arith)
packed_from width k zero (p ∷ ps) all lt some =
    let both = and_both (eqb p 0 || is_packed width k p) (are_packed width (k + 1) ps) all in
    subst (λ (j : ℕ). is_packed width j p ≡ true) (sym (add-zero k)) (some_packed width k p some both.0)
packed_from width k (suc i) (p ∷ ps) all lt some =
    let both = and_both (eqb p 0 || is_packed width k p) (are_packed width (k + 1) ps) all in
    let next : k + 1 + i ≡ k + suc i = omega arith in
    subst (λ (j : ℕ). is_packed width j (get_or ps i 0) ≡ true) next (packed_from width (k + 1) i ps both.1
    (omega arith) some)

-- what stands at a prefix
pub packed_there : (width i : ℕ) (ps : List ℕ) → are_packed width 0 ps ≡ true → i < length ps → (get_or ps i 0 ≡ 0 → ⊥)
    → is_packed width i (get_or ps i 0) ≡ true
packed_there width i ps all lt some = subst (λ (j : ℕ). is_packed width j (get_or ps i 0) ≡ true) (zero-add i)
    (packed_from width 0 i ps all lt some)

-- a word that eight bits begin with is one that the twelve begin with
pub packed_more : (seen p : ℕ) → is_packed 8 (seen / 2 ^ 4) p ≡ true → is_packed 12 seen p ≡ true
packed_more seen p = at_place (place_in (starts_of (packed_last p)) (packed_run p) (packed_size p))
  where
    at_place : (o : Option ℕ) → is_packed_at 8 (seen / 2 ^ 4) p o ≡ true → is_packed_at 12 seen p o ≡ true
    at_place None e = absurd cc
    at_place (Some place) e =
        let both = and_both (starts (seen / 2 ^ 4) 8 (code_at EVENTS place))
        (eqb (code_at EVENTS place).len (packed_len p) && is_meant p (slice_get LEVELS place)) e in
        both_and _ _ (starts_more (code_at EVENTS place) seen 8 4 both.0) both.1

-- ---- the word of a row

abbrev pub packed_event : ℕ → TableEvent
packed_event p = record { last = packed_last p; run = packed_run p; size = packed_size p }

same_bool : (a b : Bool) → cond a b (not b) ≡ true → a ≡ b
same_bool true true e = refl
same_bool true false e = sym e
same_bool false true e = e
same_bool false false e = refl

-- what is meant is what the word stands for
meant : (p : ℕ) (o : Option Level) → is_meant p o ≡ true → event_of_code o ≡ Some (packed_event p)
meant p None e = absurd cc
meant p (Some l) e =
    let both = and_both (cond l.last (packed_last p) (not (packed_last p))) (eqb l.run (packed_run p) && eqb l.size
    (packed_size p)) e in
    let numbers = and_both (eqb l.run (packed_run p)) (eqb l.size (packed_size p)) both.1 in
    let last : l.last ≡ packed_last p = same_bool l.last (packed_last p) both.0 in
    let run : l.run ≡ packed_run p = eqb-true l.run (packed_run p) numbers.0 in
    let size : l.size ≡ packed_size p = eqb-true l.size (packed_size p) numbers.1 in
    rw (last, run, size) refl

-- a row's word, which 13 bits begin with
pub record IsRow (seen p : ℕ) : Type 0 where
  pub short : packed_len p ≤ 12
  pub word : IsWordIn 13 seen (Some (packed_event p)) (packed_len p)

pub row_word : (seen p : ℕ) → is_packed 12 (seen / 2) p ≡ true → IsRow seen p
row_word seen p = at_place (place_in (starts_of (packed_last p)) (packed_run p) (packed_size p)) refl
  where
    at_place : (o : Option ℕ) → place_in (starts_of (packed_last p)) (packed_run p) (packed_size p) ≡ o
        → is_packed_at 12 (seen / 2) p o ≡ true → IsRow seen p
    at_place None is e = absurd cc
    at_place (Some place) is e =
        let both = and_both (starts (seen / 2) 12 (code_at EVENTS place))
        (eqb (code_at EVENTS place).len (packed_len p) && is_meant p (slice_get LEVELS place)) e in
        let more = and_both (eqb (code_at EVENTS place).len (packed_len p)) (is_meant p (slice_get LEVELS place)) both.1
        in
        let len : (code_at EVENTS place).len ≡ packed_len p = eqb-true (code_at EVENTS place).len
        (packed_len p) more.0 in
        let below : place < 103 = triple_below (packed_last p) (packed_run p) (packed_size p) place is in
        let named : IsWordIn 13 seen (event_at place) (code_at EVENTS place).len = named_word 13 seen place
        (omega arith) below both.0 in
        let means : event_at place ≡ Some (packed_event p) = meant p (slice_get LEVELS place) more.1 in
        let short : (code_at EVENTS place).len ≤ 12 = word_short (seen / 2) (code_at EVENTS place) both.0 in
        record {
          short = omega (arith, len, short);
          word = subst (λ (n : ℕ). IsWordIn 13 seen (Some (packed_event p)) n) len
              (subst (λ (o : Option TableEvent). IsWordIn 13 seen o (code_at EVENTS place).len) means named);
        }
