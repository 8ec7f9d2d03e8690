-- Differences by their first bits: the word of a magnitude, and the sign after it.
use Rattle.std.proofs.Common.{◌≡◌, ◌+◌, ◌-◌, ◌/◌, ◌%◌, ◌^◌, ◌<◌, ◌≤◌, ℕ, zero, suc, Bool, true, false, cond, eqb, length, take, drop, None, Ok, refl, ap, sym, ◌∙◌, arith}
use Rattle.std.specs.Prelude.{◌==◌, ℤ, pos, neg_ℤ}
use Rattle.std.specs.List.{list_all}
use Rattle.std.proofs.lemmas.Bool.{le-ltb, ne_eqb}
use Rattle.std.proofs.lemmas.List.{length-drop}
use Rattle.h263_bits.specs.Bits.{number, spelled}
use Rattle.h263_bits.specs.Reading.{Bits, skip, number_at}
use Rattle.h263_bits.specs.Syntax.{any, done, field, either, reading, begins, is_prefix_free}
use Rattle.code_tables.specs.declared.code.Code.{Code}
use Rattle.code_tables.specs.declared.tables.TheConstants.{MAGNITUDES}
use Rattle.code_tables.specs.Words.{listed, is_code, starts, code_at}
use Rattle.code_tables.specs.Tables.{magnitude_words, magnitude_texts, magnitude_table, mvd, mvd_parts, allowed_difference, signed}
use Rattle.code_tables.specs.Seen.{IsMagnitudeIn}
use Rattle.code_tables.proofs.Search.{front_number, named_stands, word_found}
use Rattle.code_tables.proofs.SeenEvents.{field_in, skip-skip}

-- the words as the code has them are those of the standard
same_words : magnitude_words ≡ listed 0 MAGNITUDES
unfolding magnitude_words magnitude_texts listed spelled
same_words = refl

all_codes : list_all is_code MAGNITUDES ≡ true
all_codes = refl

apart : is_prefix_free (listed 0 MAGNITUDES) ≡ true
unfolding begins is_prefix_free listed spelled
apart = refl

abbrev none : Code
none = record { bits = 0; len = 0 }

-- what the tables name for the first twelve of 13 bits is the word that they begin with
pub magnitude_in : (seen place len : ℕ) → place < 33 → starts (seen / 2 ^ 1) 12 (code_at MAGNITUDES place) ≡ true
    → len ≡ (code_at MAGNITUDES place).len → IsMagnitudeIn seen place len
magnitude_in seen place len lt there many b enough is =
    let twelve : seen / 2 ^ 1 ≡ number (take 12 b.bits) = sym (front_number b.bits 12 13 (omega arith) enough
    ∙ ap (λ (v : ℕ). v / 2 ^ 1) is) in
    let stands = named_stands MAGNITUDES b.bits 12 (seen / 2 ^ 1) place all_codes apart (omega arith) twelve lt there in
    rw (many, same_words) (word_found MAGNITUDES place b none stands)

-- the sign after a word of `len` bits
sign_there : (b : Bits) (len seen : ℕ) → len ≤ 12 → 13 ≤ length b.bits → number (take 13 b.bits) ≡ seen
    → number_at 1 (skip len b) ≡ Ok (seen / 2 ^ (12 - len) % 2, skip (len + 1) b)
unfolding number_at
sign_there b len seen le enough is =
    let long = le-ltb (length (drop len b.bits)) 1 (omega (arith, length-drop len b.bits)) in
    let value : number (take 1 (drop len b.bits)) ≡ seen / 2 ^ (12 - len) % 2 = field_in b.bits len 1 (12 - len) 13
    (omega arith) enough ∙ ap (λ (v : ℕ). v / 2 ^ (12 - len) % 2) is in
    rw (long, value) (ap (λ (c : Bits). Ok (seen / 2 ^ (12 - len) % 2, c)) (skip-skip len 1 b))

-- 0 has no sign
pub zero_read : (b : Bits) (seen len : ℕ) → IsMagnitudeIn seen 0 len → 13 ≤ length b.bits → number (take 13 b.bits)
    ≡ seen → reading mvd b ≡ Ok (pos 0, skip len b)
unfolding reading mvd mvd_parts magnitude_table
zero_read b seen len word enough is = rw (word b enough is) refl

-- no difference below 32 is refused
allowed_below : (sign size : ℕ) → size < 32 → allowed_difference (signed sign size) ≡ None
allowed_below sign size lt = at_test (eqb sign 0) size lt
  where
    at_test : (plus : Bool) (size : ℕ) → size < 32 → allowed_difference (cond plus (pos size) (neg_ℤ (pos size))) ≡ None
    at_test true size lt = rw (ne_eqb size 32 (λ e. omega (arith, e))) refl
    at_test false zero lt = refl
    at_test false (suc k) lt = refl

-- what follows the word of a size that isn't 0
after_size : (plain : Bool) (size s : ℕ) (c d : Bits) → plain ≡ false → number_at 1 c ≡ Ok (s, d)
    → reading (either plain (done (pos 0)) (field 1 any λ sign. done (signed sign size))) c ≡ Ok (signed s size, d)
unfolding reading
after_size true size s c d e sign = absurd cc
after_size false size s c d e sign = rw sign refl

signed_parts : (b : Bits) (seen size len : ℕ) → len ≤ 12 → (size ≡ 0 → ⊥) → IsMagnitudeIn seen size len
    → 13 ≤ length b.bits → number (take 13 b.bits) ≡ seen
    → reading mvd_parts b ≡ Ok (signed (seen / 2 ^ (12 - len) % 2) size, skip (len + 1) b)
unfolding reading mvd_parts magnitude_table
signed_parts b seen size len short some word enough is =
    rw (word b enough is) (after_size (size == 0) size (seen / 2 ^ (12 - len) % 2) (skip len b) (skip (len + 1) b)
    (ne_eqb size 0 some) (sign_there b len seen short enough is))

-- a difference is read where its parts are, and it isn't refused
difference_read : (b c : Bits) (v : ℤ) → reading mvd_parts b ≡ Ok (v, c) → allowed_difference v ≡ None
    → reading mvd b ≡ Ok (v, c)
unfolding mvd reading
difference_read b c v e allowed = rw (e, allowed) refl

pub signed_read : (b : Bits) (seen size len : ℕ) (z : ℤ) → len ≤ 12 → size < 32 → (size ≡ 0 → ⊥)
    → IsMagnitudeIn seen size len → 13 ≤ length b.bits → number (take 13 b.bits) ≡ seen
    → z ≡ signed (seen / 2 ^ (12 - len) % 2) size
    → reading mvd b ≡ Ok (z, skip (len + 1) b)
signed_read b seen size len z short small some word enough is value =
    let sign = seen / 2 ^ (12 - len) % 2 in
    rw value (difference_read b (skip (len + 1) b) (signed sign size)
    (signed_parts b seen size len short some word enough is) (allowed_below sign size small))
