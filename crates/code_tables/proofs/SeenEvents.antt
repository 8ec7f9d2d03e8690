-- Events by their first bits: which words these begin with, and what follows them.
use Rattle.std.proofs.Common.{◌≡◌, ◌+◌, ◌-◌, ◌/◌, ◌%◌, ◌^◌, ◌<◌, ◌≤◌, ℕ, zero, suc, Bool, true, false, cond, eqb, leb, ltb, List, [], ◌∷◌, length, take, drop, Option, Some, None, Ok, Err, eq-eqb, refl, ap, sym, ◌∙◌, arith, inl, inr}
use mir.Val.{SFits}
use Rattle.std.specs.Prelude.{map, slice_get, IfSome, ℤ, pos, neg_ℤ}
use Rattle.std.specs.Int.{w8}
use Rattle.std.proofs.lemmas.Int.{ints}
use Rattle.std.specs.List.{list_all}
use Rattle.std.proofs.lemmas.Bool.{ltb-true, leb-true, le-ltb, ne_eqb, cases_lt, lt-ltb}
use Rattle.std.proofs.lemmas.Nat.{shr-shr}
use Rattle.std.proofs.lemmas.List.{length-take, length-drop, drop-drop, drop-take}
use Rattle.h263_bits.specs.declared.fault.Fault.{Fault}
use Rattle.h263_bits.specs.Bits.{number, spelled}
use Rattle.h263_bits.specs.Reading.{Bits, skip, number_at, ◌>>=◌}
use Rattle.h263_bits.specs.Syntax.{reading, begins, is_prefix_free, word_at}
use Rattle.h263_bits.proofs.SyntaxLaws.{number-middle, take-take, and_both}
use Rattle.code_tables.specs.declared.code.Code.{Code}
use Rattle.code_tables.specs.declared.code.Level.{Level}
use Rattle.code_tables.specs.declared.event_tables.TheConstants.{EVENTS, LEVELS}
use Rattle.code_tables.specs.Words.{listed, is_code, starts, code_at}
use Rattle.code_tables.specs.Tables.{TableEvent, Coefficient, tcoef_words, last_0_texts, last_1_texts, event, event_parts, event_table, signed, escaped_level}
use Rattle.code_tables.specs.declared.event_bits.SeenEvent.{SeenEvent}
use Rattle.code_tables.specs.Events.{event_of_code, coefficient_of}
use Rattle.code_tables.specs.Seen.{IsWordIn, IsEventIn, IsNextEvent}
use Rattle.code_tables.proofs.Search.{word_at-map, front_number, named_stands, word_found}

abbrev pub event_at : ℕ → Option TableEvent
event_at i = event_of_code (slice_get LEVELS i)

-- the words as the code has them are those of the standard
same_words : tcoef_words ≡ map (λ (w : List Bool × ℕ). (w.0, event_at w.1)) (listed 0 EVENTS)
unfolding tcoef_words last_0_texts last_1_texts listed spelled
same_words = refl

read : (b : Bits) → word_at tcoef_words b ≡ (word_at (listed 0 EVENTS) b >>= λ x. Ok (event_at x.0, x.1))
read b = ap (λ (t : List (List Bool × Option TableEvent)). word_at t b) same_words
    ∙ word_at-map event_at (listed 0 EVENTS) b

pub found : (b c : Bits) (i : ℕ) (o : Option TableEvent) → word_at (listed 0 EVENTS) b ≡ Ok (i, c) → o ≡ event_at i
    → word_at tcoef_words b ≡ Ok (o, c)
found b c i o e s = read b ∙ rw (e, s) refl

pub fault : (b : Bits) (f : Fault) → word_at (listed 0 EVENTS) b ≡ Err f → word_at tcoef_words b ≡ Err f
fault b f e = read b ∙ rw e refl

pub is_small : Level → Bool
is_small level = ltb level.size 128

pub small : (levels : List Level) (i : ℕ) → list_all is_small levels ≡ true
    → IfSome (slice_get levels i) (λ level. level.size < 128)
unfolding is_small
small [] i e = tt
small (l ∷ levels) zero e = ltb-true l.size 128 (and_both (is_small l) (list_all is_small levels) e).0
small (l ∷ levels) (suc i) e = small levels i (and_both (is_small l) (list_all is_small levels) e).1

pub all_small : list_all is_small LEVELS ≡ true
unfolding is_small
all_small = refl

-- ---- by the first bits

-- n bits from place o on, from the number of the first m
pub field_in : (bits : List Bool) (o n s m : ℕ) → o + n + s ≡ m → m ≤ length bits → number (take n (drop o bits))
    ≡ number (take m bits) / 2 ^ s % 2 ^ n
field_in bits o n s m e le =
    let len : length (take m bits) ≡ m = omega (arith, length-take m bits) in
    let parts : m ≡ o + (n + s) = omega arith in
    let inside : take n (drop o (take m bits)) ≡ take n (drop o bits) =
    ap (λ (j : ℕ). take n (drop o (take j bits))) parts ∙ ap (take n) (drop-take o (n + s) bits)
    ∙ take-take n (n + s) (drop o bits) (omega arith) (omega (arith, length-drop o bits)) in
    ap number (sym inside) ∙ number-middle (take m bits) o n s (omega (arith, len))

pub skip-skip : (j k : ℕ) (b : Bits) → skip k (skip j b) ≡ skip (j + k) b
skip-skip j k b =
    let at : b.at + j + k ≡ b.at + (j + k) = omega arith in
    rw (at, drop-drop k j b.bits) refl

-- a field of k bits after the first o, where s more of the n follow
pub field_there : (b : Bits) (n o k s seen : ℕ) → o + k + s ≡ n → n ≤ length b.bits → number (take n b.bits) ≡ seen
    → number_at k (skip o b) ≡ Ok (seen / 2 ^ s % 2 ^ k, skip (o + k) b)
unfolding number_at
field_there b n o k s seen e le is =
    let enough = le-ltb (length (drop o b.bits)) k (omega (arith, length-drop o b.bits)) in
    let value : number (take k (drop o b.bits)) ≡ seen / 2 ^ s % 2 ^ k = field_in b.bits o k s n e le
    ∙ ap (λ (v : ℕ). v / 2 ^ s % 2 ^ k) is in
    rw (enough, value) (ap (λ (c : Bits). Ok (seen / 2 ^ s % 2 ^ k, c)) (skip-skip o k b))

all_codes : list_all is_code EVENTS ≡ true
all_codes = refl

apart : is_prefix_free (listed 0 EVENTS) ≡ true
unfolding begins is_prefix_free listed spelled
apart = refl

abbrev none : Code
none = record { bits = 0; len = 0 }

-- the code that the first twelve of n bits begin with is the word that they begin with
pub named_word : (n seen place : ℕ) → 12 ≤ n → place < 103 → starts (seen / 2 ^ (n - 12)) 12 (code_at EVENTS place)
    ≡ true → IsWordIn n seen (event_at place) (code_at EVENTS place).len
named_word n seen place le lt there b enough is =
    let twelve : seen / 2 ^ (n - 12) ≡ number (take 12 b.bits) = sym (front_number b.bits 12 n le enough
    ∙ ap (λ (v : ℕ). v / 2 ^ (n - 12)) is) in
    let stands = named_stands EVENTS b.bits 12 (seen / 2 ^ (n - 12)) place all_codes apart (omega arith) twelve lt there
    in
    found b (skip (code_at EVENTS place).len b) place (event_at place) (word_found EVENTS place b none stands) refl

pub word_short : (seen : ℕ) (c : Code) → starts seen 12 c ≡ true → c.len ≤ 12
word_short seen c there = leb-true c.len 12 (and_both (leb c.len 12) (eqb (seen / 2 ^ (12 - c.len)) c.bits) there).0

-- the escape is the word whose seven bits are 3
pub escape_word : (seen : ℕ) → seen / 2 ^ 15 ≡ 3 → IsWordIn 22 seen None 7
escape_word seen e =
    let same : seen / 2 ^ 10 / 2 ^ 5 ≡ 3 = shr-shr seen 10 5 ∙ e in
    named_word 22 seen 102 (omega arith) (omega arith) (eq-eqb (seen / 2 ^ 10 / 2 ^ 5) 3 same)

neg_fits : (k : ℕ) → k < 128 → SFits w8 (neg_ℤ (pos k))
neg_fits zero lt = omega (arith, ints)
neg_fits (suc k) lt = omega (arith, ints)

pub signed_fits : (sign size : ℕ) → size < 128 → SFits w8 (signed sign size)
signed_fits sign size lt = at_test (eqb sign 0)
  where
    at_test : (plus : Bool) → SFits w8 (cond plus (pos size) (neg_ℤ (pos size)))
    at_test true = omega (arith, ints)
    at_test false = neg_fits size lt

pub level_of_fits : (n : ℕ) → n < 256 → (n ≡ 128 → ⊥) → SFits w8 (escaped_level n)
level_of_fits n lt ne =
    elim (cases_lt n 128) [
      | inl less ↦ rw (lt-ltb n 128 less) (omega (arith, ints))
      | inr more ↦ rw (le-ltb n 128 more) (neg_fits (256 - n) (omega (arith, ne)))
    ]

-- a word and its sign
pub word_read : (b : Bits) (e : TableEvent) (len seen : ℕ) (z : ℤ) → len ≤ 12 → IsWordIn 13 seen (Some e) len
    → 13 ≤ length b.bits → number (take 13 b.bits) ≡ seen → z ≡ signed (seen / 2 ^ (12 - len) % 2) e.size
    → reading event_parts b ≡ Ok (record { last = e.last; run = e.run; level = z }, skip (len + 1) b)
unfolding reading event_parts event_table
word_read b e len seen z short word enough is value =
    let sign : number_at 1 (skip len b) ≡ Ok (seen / 2 ^ (12 - len) % 2, skip (len + 1) b) =
    field_there b 13 len 1 (12 - len) seen (omega arith) enough is in
    rw (word b enough is, sign, value) refl

-- the escape and its fields
pub escape_read : (b : Bits) (seen : ℕ) (z : ℤ) → IsWordIn 22 seen None 7 → (seen % 256 ≡ 0 → ⊥)
    → (seen % 256 ≡ 128 → ⊥) → 22 ≤ length b.bits → number (take 22 b.bits) ≡ seen → z ≡ escaped_level (seen % 256)
    → reading event_parts b ≡ Ok (
      record { last = eqb (seen / 2 ^ 14 % 2) 1; run = seen / 2 ^ 8 % 64; level = z },
      skip 22 b,
    )
unfolding reading event_parts event_table
escape_read b seen z word some great enough is value =
    let last : number_at 1 (skip 7 b) ≡ Ok (seen / 2 ^ 14 % 2, skip 8 b) = field_there b 22 7 1 14 seen
    refl enough is in
    let run : number_at 6 (skip 8 b) ≡ Ok (seen / 2 ^ 8 % 64, skip 14 b) = field_there b 22 8 6 8 seen refl enough is in
    let whole : seen / 2 ^ 0 ≡ seen = omega arith in
    let level : number_at 8 (skip 14 b) ≡ Ok (seen % 256, skip 22 b) = field_there b 22 14 8 0 seen refl enough is
    ∙ ap (λ (v : ℕ). Ok (v % 256, skip 22 b)) whole in
    rw (word b enough is, last, run, level, ne_eqb (seen % 256) 0 some, ne_eqb (seen % 256) 128 great, value) refl

-- an event is read where its parts are
pub event_read : (b c : Bits) (x : Coefficient) → reading event_parts b ≡ Ok (x, c) → reading event b ≡ Ok (x, c)
unfolding event reading
event_read b c x e = rw e refl

-- what the number of the first bits tells of all bits that begin so, it tells of these
pub next_event : (n seen : ℕ) (b : Bits) (o : Option SeenEvent) → IfSome o (λ found. IsEventIn n seen found)
    → n ≤ length b.bits → number (take n b.bits) ≡ seen → IfSome o (IsNextEvent b)
next_event n seen b None all enough is = tt
next_event n seen b (Some found) all enough is =
    let first = all b enough is in
    record {
      whole = omega (arith, first.few);
      read = event_read b (skip found.len b) (coefficient_of found.event) first.read;
    }
