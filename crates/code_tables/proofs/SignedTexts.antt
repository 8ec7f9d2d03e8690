-- A word and the sign after it are written as one number: twice the word's, and 1 more for minus.
use Rattle.std.proofs.Common.{◌≡◌, ℕ, zero, suc, ◌+◌, ◌*◌, ◌^◌, ◌<◌, Bool, true, false, eqb, ltb, List, [], ◌∷◌, ◌++◌, length, get_or, Some, refl, sym, ap, ◌∙◌, append_assoc, arith}
use mir.Val.{bool_byte}
use Rattle.std.specs.Prelude.{ℤ, pos, negsuc, int_lt, ◌≤ℤ◌}
use Rattle.std.proofs.lemmas.Int.{ints}
use Rattle.std.specs.List.{list_all}
use Rattle.std.proofs.lemmas.Bool.{le-ltb, ltb-true, ne_eqb}
use Rattle.std.proofs.lemmas.List.{append-nil}
use Rattle.std.proofs.lemmas.Nat.{pow-add}
use Rattle.h263_bits.specs.Bits.{spelled, fields}
use Rattle.h263_bits.proofs.SyntaxLaws.{and_both, spelled-append}
use Rattle.code_tables.specs.declared.code.Code.{Code}
use Rattle.code_tables.specs.declared.event_tables.TheConstants.{EVENTS}
use Rattle.code_tables.specs.declared.tables.TheConstants.{MAGNITUDES}
use Rattle.code_tables.specs.Words.{is_code, code_at, word_of, text_at, place_in}
use Rattle.code_tables.specs.Starts.{starts_of}
use Rattle.code_tables.specs.Tables.{Coefficient, size_of, sign_text, magnitude_texts, mvd_text, event_text, bit_of}
use Rattle.code_tables.proofs.Texts.{magnitude_text}
use Rattle.code_tables.proofs.Rows.{event_word}

-- that number has the bits of the word, and then the sign
pub signed_word : (len bits : ℕ) (minus : Bool) → spelled (len + 1) (2 * bits + bool_byte minus) ≡ spelled len bits
    ++ minus ∷ []
unfolding spelled
signed_word len bits true =
    let same : 2 * bits + 1 ≡ bits * 2 ^ 1 + 1 = omega arith in
    ap (spelled (len + 1)) same ∙ spelled-append len 1 bits 1 (omega arith)
signed_word len bits false =
    let same : 2 * bits + 0 ≡ bits * 2 ^ 1 + 0 = omega arith in
    ap (spelled (len + 1)) same ∙ spelled-append len 1 bits 0 (omega arith)

-- and it has one bit more
pub signed_fits : (len bits : ℕ) (minus : Bool) → bits < 2 ^ len → 2 * bits + bool_byte minus < 2 ^ (len + 1)
signed_fits len bits true fits = omega (arith, fits, pow-add 2 len 1)
signed_fits len bits false fits = omega (arith, fits, pow-add 2 len 1)

code_in : (codes : List Code) (k : ℕ) (d : Code) → list_all is_code codes ≡ true → k < length codes
    → is_code (get_or codes k d) ≡ true
code_in [] k d all lt = absurd (omega arith)
code_in (c ∷ codes) zero d all lt = (and_both (is_code c) (list_all is_code codes) all).0
code_in (c ∷ codes) (suc k) d all lt = code_in codes k d (and_both (is_code c) (list_all is_code codes) all).1
    (omega arith)

-- a code of a table has fewer than 16 bits
pub code_fits : (codes : List Code) (k : ℕ) (d : Code) → list_all is_code codes ≡ true → k < length codes
    → ((get_or codes k d).len < 16) × ((get_or codes k d).bits < 2 ^ (get_or codes k d).len)
code_fits codes k d all lt =
    let c = get_or codes k d in
    let p = and_both (ltb c.len 16) (ltb c.bits (2 ^ c.len)) (code_in codes k d all lt) in
    (ltb-true c.len 16 p.0, ltb-true c.bits (2 ^ c.len) p.1)

-- ---- the sign of a number

pub sign_is : (z : ℤ) → 0 < size_of z → sign_text z ≡ int_lt z (pos 0) ∷ []
sign_is (pos n) some =
    let other : eqb n 0 ≡ false = ne_eqb n 0 (λ (e : n ≡ 0). omega (arith, some, e)) in
    let plus : ltb n 0 ≡ false = le-ltb n 0 (omega arith) in
    rw (other, plus) refl
sign_is (negsuc n) some = refl

no_sign : (z : ℤ) → size_of z ≡ 0 → sign_text z ≡ []
no_sign (pos n) e = rw e refl
no_sign (negsuc n) e = absurd (omega (arith, e))

-- an event that has a word: the word and the sign
pub signed_event : (e : Coefficient) (n p : ℕ) → n ≡ size_of e.level → 0 < size_of e.level
    → place_in (starts_of e.last) e.run n ≡ Some p → word_of (code_at EVENTS p) ++ int_lt e.level (pos 0) ∷ []
    ≡ event_text e
signed_event e n p same some at = ap (λ (t : List Bool). word_of (code_at EVENTS p) ++ t) (sym (sign_is e.level some))
    ∙ event_word e n p same some at

-- a difference of vectors: the word of 0 alone, and else the word of the size and the sign
pub no_difference : (v : ℤ) (n : ℕ) → n ≡ size_of v → n ≡ 0 → word_of (code_at MAGNITUDES n) ≡ mvd_text v
unfolding mvd_text
no_difference v n same none =
    magnitude_text n (omega (arith, none)) ∙ ap (text_at magnitude_texts) same
    ∙ sym (append-nil (text_at magnitude_texts (size_of v)))
    ∙ ap (λ (t : List Bool). text_at magnitude_texts (size_of v) ++ t) (sym (no_sign v (sym same ∙ none)))

pub signed_difference : (v : ℤ) (n : ℕ) → n ≡ size_of v → 0 < n → n < 33 → word_of (code_at MAGNITUDES n)
    ++ int_lt v (pos 0) ∷ [] ≡ mvd_text v
unfolding mvd_text
signed_difference v n same some few =
    ap (λ (t : List Bool). t ++ int_lt v (pos 0) ∷ []) (magnitude_text n few ∙ ap (text_at magnitude_texts) same)
    ∙ ap (λ (t : List Bool). text_at magnitude_texts (size_of v) ++ t) (sym (sign_is v (omega (arith, some, same))))

-- a size that MVD has a word for
pub size_below : (v : ℤ) → negsuc 31 ≤ℤ v → v ≤ℤ pos 31 → size_of v < 33
size_below (pos n) low high = omega (arith, ints)
size_below (negsuc n) low high = omega (arith, ints)

-- ---- an escape

escape_text : (last run byte : ℕ) → last < 2 → run < 64 → byte < 256
    → spelled 22 (((6 + last) * 64 + run) * 256 + byte) ≡ spelled 7 3
    ++ (spelled 1 last ++ (spelled 6 run ++ (spelled 8 byte ++ [])))
escape_text last run byte l r b =
    let same : ((6 + last) * 64 + run) * 256 + byte ≡ ((3 * 2 ^ 1 + last) * 2 ^ 6 + run) * 2 ^ 8 + byte = omega arith in
    ap (spelled 22) same
    ∙ spelled-append 14 8 ((3 * 2 ^ 1 + last) * 2 ^ 6 + run) byte (omega arith)
    ∙ ap (λ (t : List Bool). t ++ spelled 8 byte) (spelled-append 8 6 (3 * 2 ^ 1 + last) run (omega arith)
    ∙ ap (λ (t : List Bool). t ++ spelled 6 run) (spelled-append 7 1 3 last (omega arith)))
    ∙ append_assoc (spelled 7 3 ++ spelled 1 last) (spelled 6 run) (spelled 8 byte)
    ∙ append_assoc (spelled 7 3) (spelled 1 last) (spelled 6 run ++ spelled 8 byte)
    ∙ ap (λ (t : List Bool). spelled 7 3 ++ (spelled 1 last ++ (spelled 6 run ++ t)))
    (sym (append-nil (spelled 8 byte)))

-- the four fields of an escape are the bits of one number
pub escape_is : (last : Bool) (run byte : ℕ) → run < 64 → byte < 256
    → spelled 22 (((6 + bool_byte last) * 64 + run) * 256 + byte)
    ≡ fields ((7, 3) ∷ (1, bit_of last) ∷ (6, run) ∷ (8, byte) ∷ [])
escape_is true run byte r b = escape_text 1 run byte (omega arith) r b
escape_is false run byte r b = escape_text 0 run byte (omega arith) r b

pub escape_fits : (last : Bool) (run byte : ℕ) → run < 64 → byte < 256
    → ((6 + bool_byte last) * 64 + run) * 256 + byte < 2 ^ 22
escape_fits true run byte r b = omega arith
escape_fits false run byte r b = omega arith
