-- CBPY, MVD and TCOEF (H.263 5.3.5, 5.3.7 and 5.4.2), as the standard writes them.
use Rattle.std.specs.Prelude.{length, drop, count_by, is_some, ◌&&◌, ℕ, suc, ◌<◌, slice_get, option_and_then, ◌+◌, ◌-◌, List, [], ◌∷◌, ◌++◌, Bool, true, false, refl, if◌then◌else◌, Option, Some, None, ◌==◌, nat_lt, ℤ, pos, negsuc, neg_ℤ}
use Rattle.h263_bits.specs.declared.fault.FaultKind.TheVariants.{BadCode, BadLevel}
use Rattle.h263_bits.specs.Bits.{fields}
use Rattle.h263_bits.specs.Syntax.{Syntax, Words, Allowed, any, code, done, field, element, either, begins, is_prefix_free}
use Rattle.code_tables.specs.Words.{word, numbered_from, text_at}

-- the words of CBPY in an intra macroblock, patterns 0 to 15
unfoldable pub cbpy_texts : List (List Bool)
cbpy_texts = word "0011" ∷ word "00101" ∷ word "00100" ∷ word "1001"
    ∷ word "00011" ∷ word "0111" ∷ word "000010" ∷ word "1011" ∷ word "00010" ∷ word "000011"
    ∷ word "0101" ∷ word "1010" ∷ word "0100" ∷ word "1000" ∷ word "0110" ∷ word "11" ∷ []

unfoldable pub cbpy_words : List (List Bool × ℕ)
cbpy_words = numbered_from 0 cbpy_texts

unfoldable pub cbpy_table : Words ℕ
unfolding cbpy_words cbpy_texts begins is_prefix_free
cbpy_table = record { list = cbpy_words; apart = refl }

-- CBPY; an inter macroblock has the word of the complement
unfoldable pub cbpy : Bool → Syntax ℕ
cbpy intra = code cbpy_table λ pattern. done (if intra then pattern else 15 - pattern)

-- the text that is written for a pattern
unfoldable pub cbpy_text : Bool → ℕ → List Bool
cbpy_text intra pattern = text_at cbpy_texts (if intra then pattern else 15 - pattern)

-- the words of MVD, magnitudes 0 to 32 in half samples; a sign follows
unfoldable pub magnitude_texts : List (List Bool)
magnitude_texts = word "1" ∷ word "01" ∷ word "001" ∷ word "0001" ∷ word "000011" ∷ word "0000101"
    ∷ word "0000100" ∷ word "0000011" ∷ word "000001011" ∷ word "000001010" ∷ word "000001001"
    ∷ word "0000010001" ∷ word "0000010000" ∷ word "0000001111" ∷ word "0000001110" ∷ word
    "0000001101" ∷ word "0000001100" ∷ word "0000001011" ∷ word "0000001010" ∷ word "0000001001"
    ∷ word "0000001000" ∷ word "0000000111" ∷ word "0000000110" ∷ word "0000000101" ∷ word
    "0000000100" ∷ word "00000000111" ∷ word "00000000110" ∷ word "00000000101" ∷ word "00000000100"
    ∷ word "00000000011" ∷ word "00000000010" ∷ word "000000000011" ∷ word "000000000010" ∷ []

unfoldable pub magnitude_words : List (List Bool × ℕ)
magnitude_words = numbered_from 0 magnitude_texts

unfoldable pub magnitude_table : Words ℕ
unfolding magnitude_words magnitude_texts begins is_prefix_free
magnitude_table = record { list = magnitude_words; apart = refl }

-- ---- TCOEF

-- LAST, RUN and the size of LEVEL
pub record TableEvent : Type 0 where
  pub last : Bool
  pub run : ℕ
  pub size : ℕ

-- the words for sizes from n on
abbrev pub sized : Bool → ℕ → ℕ → List (List Bool) → List (List Bool × Option TableEvent)
sized last run n [] = []
sized last run n (w ∷ ws) = (w, Some (record { last = last; run = run; size = n })) ∷ sized last run (n + 1) ws

-- the words of one LAST and RUN, for sizes 1, 2, 3 and so on
abbrev pub words_of_events : Bool → ℕ → List (List Bool) → List (List Bool × Option TableEvent)
words_of_events last run words = sized last run 1 words

-- the words of LAST 0: a row for each RUN from 0 on, for sizes 1, 2, 3 and so on
unfoldable pub last_0_texts : List (List (List Bool))
last_0_texts =
    (word "10" ∷ word "1111" ∷ word "010101"
    ∷ word "0010111" ∷ word "00011111" ∷ word "000100101" ∷ word "000100100" ∷ word "0000100001"
    ∷ word "0000100000" ∷ word "00000000111" ∷ word "00000000110" ∷ word "00000100000" ∷ []) ∷
    (word "110" ∷ word "010100" ∷ word "00011110" ∷ word "0000001111" ∷ word "00000100001" ∷ word "000001010000" ∷ []) ∷
    (word "1110" ∷ word "00011101" ∷ word "0000001110" ∷ word "000001010001" ∷ []) ∷
    (word "01101" ∷ word "000100011" ∷ word "0000001101" ∷ []) ∷
    (word "01100" ∷ word "000100010" ∷ word "000001010010" ∷ []) ∷
    (word "01011" ∷ word "0000001100" ∷ word "000001010011" ∷ []) ∷
    (word "010011" ∷ word "0000001011" ∷ word "000001010100" ∷ []) ∷
    (word "010010" ∷ word "0000001010" ∷ []) ∷
    (word "010001" ∷ word "0000001001" ∷ []) ∷
    (word "010000" ∷ word "0000001000" ∷ []) ∷
    (word "0010110" ∷ word "000001010101" ∷ []) ∷
    (word "0010101" ∷ []) ∷
    (word "0010100" ∷ []) ∷
    (word "00011100" ∷ []) ∷
    (word "00011011" ∷ []) ∷
    (word "000100001" ∷ []) ∷
    (word "000100000" ∷ []) ∷
    (word "000011111" ∷ []) ∷
    (word "000011110" ∷ []) ∷
    (word "000011101" ∷ []) ∷
    (word "000011100" ∷ []) ∷
    (word "000011011" ∷ []) ∷
    (word "000011010" ∷ []) ∷
    (word "00000100010" ∷ []) ∷
    (word "00000100011" ∷ []) ∷
    (word "000001010110" ∷ []) ∷
    (word "000001010111" ∷ []) ∷ []

-- the words of LAST 1, likewise
unfoldable pub last_1_texts : List (List (List Bool))
last_1_texts =
    (word "0111" ∷ word "000011001" ∷ word "00000000101" ∷ []) ∷
    (word "001111" ∷ word "00000000100" ∷ []) ∷
    (word "001110" ∷ []) ∷
    (word "001101" ∷ []) ∷
    (word "001100" ∷ []) ∷
    (word "0010011" ∷ []) ∷
    (word "0010010" ∷ []) ∷
    (word "0010001" ∷ []) ∷
    (word "0010000" ∷ []) ∷
    (word "00011010" ∷ []) ∷
    (word "00011001" ∷ []) ∷
    (word "00011000" ∷ []) ∷
    (word "00010111" ∷ []) ∷
    (word "00010110" ∷ []) ∷
    (word "00010101" ∷ []) ∷
    (word "00010100" ∷ []) ∷
    (word "00010011" ∷ []) ∷
    (word "000011000" ∷ []) ∷
    (word "000010111" ∷ []) ∷
    (word "000010110" ∷ []) ∷
    (word "000010101" ∷ []) ∷
    (word "000010100" ∷ []) ∷
    (word "000010011" ∷ []) ∷
    (word "000010010" ∷ []) ∷
    (word "000010001" ∷ []) ∷
    (word "0000000111" ∷ []) ∷
    (word "0000000110" ∷ []) ∷
    (word "0000000101" ∷ []) ∷
    (word "0000000100" ∷ []) ∷
    (word "00000100100" ∷ []) ∷
    (word "00000100101" ∷ []) ∷
    (word "00000100110" ∷ []) ∷
    (word "00000100111" ∷ []) ∷
    (word "000001011000" ∷ []) ∷
    (word "000001011001" ∷ []) ∷
    (word "000001011010" ∷ []) ∷
    (word "000001011011" ∷ []) ∷
    (word "000001011100" ∷ []) ∷
    (word "000001011101" ∷ []) ∷
    (word "000001011110" ∷ []) ∷
    (word "000001011111" ∷ []) ∷ []

-- the words of the rows, RUN from run on
abbrev pub from_runs : Bool → ℕ → List (List (List Bool)) → List (List Bool × Option TableEvent)
from_runs last run [] = []
from_runs last run (row ∷ rows) = words_of_events last run row ++ from_runs last (run + 1) rows

-- the words of events, and the escape, which stands for none
unfoldable pub tcoef_words : List (List Bool × Option TableEvent)
tcoef_words = from_runs false 0 last_0_texts ++ from_runs true 0 last_1_texts ++ (word "0000011", None) ∷ []

unfoldable pub event_table : Words (Option TableEvent)
unfolding tcoef_words last_0_texts last_1_texts begins is_prefix_free
event_table = record { list = tcoef_words; apart = refl }

-- how many words of events have this many bits, the escape left out
unfoldable pub words_of_length : ℕ → ℕ
words_of_length n = count_by (λ w. is_some w.1 && (length w.0 == n)) tcoef_words

-- a size with its sign, 1 for minus
abbrev pub signed : ℕ → ℕ → ℤ
signed sign size = if sign == 0 then pos size else neg_ℤ (pos size)

-- an event as it is read: LEVEL with its sign
pub record Coefficient : Type 0 where
  pub last : Bool
  pub run : ℕ
  pub level : ℤ

-- LEVEL of an escape, in two's complement
abbrev pub allowed_level : Allowed ℕ
allowed_level n = if n == 0 then Some BadLevel else if n == 128 then Some BadLevel else None

abbrev pub escaped_level : ℕ → ℤ
escaped_level n = if nat_lt n 128 then pos n else neg_ℤ (pos (256 - n))

-- what follows a word: a sign, or the fields of the escape
abbrev pub after_word : Option TableEvent → Syntax Coefficient
after_word (Some e) =
    field 1 any λ sign.
    done (record { last = e.last; run = e.run; level = signed sign e.size })
after_word None =
    field 1 any λ last.
    field 6 any λ run.
    field 8 allowed_level λ level.
    done (record { last = last == 1; run = run; level = escaped_level level })

unfoldable pub event_parts : Syntax Coefficient
event_parts = code event_table after_word

-- an event is one element: each of its faults stands at its first bit
unfoldable pub event : Syntax Coefficient
event = element event_parts any done

-- ---- MVD

-- magnitude and sign; there is no sign at 0
unfoldable pub mvd_parts : Syntax ℤ
mvd_parts = code magnitude_table λ size. either (size == 0) (done (pos 0)) (field 1 any λ sign. done (signed sign size))

-- the words of magnitudes from n on with their signs, 0 for plus and 1 for minus: the last one has the sign 1 alone
abbrev pub with_signs : ℕ → List (List Bool) → List (List Bool × ℤ)
with_signs n [] = []
with_signs n (w ∷ []) = (w ++ true ∷ [], neg_ℤ (pos n)) ∷ []
with_signs n (w ∷ v ∷ ws) = (w ++ false ∷ [], pos n) ∷ (w ++ true ∷ [], neg_ℤ (pos n)) ∷ with_signs (suc n) (v ∷ ws)

-- the words of MVD with their signs: 0 has none, and 32 is there with minus alone
unfoldable pub mvd_words : List (List Bool × ℤ)
mvd_words = (word "1", pos 0) ∷ with_signs 1 (drop 1 magnitude_texts)

-- 32 is no vector difference
abbrev pub allowed_difference : Allowed ℤ
allowed_difference (pos n) = if n == 32 then Some BadCode else None
allowed_difference (negsuc n) = None

unfoldable pub mvd : Syntax ℤ
mvd = element mvd_parts allowed_difference done

-- the size of a number
abbrev pub size_of : ℤ → ℕ
size_of (pos n) = n
size_of (negsuc n) = suc n

-- the sign after a size: none at 0, 1 for minus
abbrev pub sign_text : ℤ → List Bool
sign_text (pos n) = if n == 0 then [] else false ∷ []
sign_text (negsuc n) = true ∷ []

-- the text that is written for a difference
unfoldable pub mvd_text : ℤ → List Bool
mvd_text v = text_at magnitude_texts (size_of v) ++ sign_text v

-- ---- what is written for an event

-- the rows of a LAST
abbrev pub texts_of_last : Bool → List (List (List Bool))
texts_of_last false = last_0_texts
texts_of_last true = last_1_texts

-- the word of LAST, RUN and a size from 1 on, if they have one
unfoldable pub triple_text : Bool → ℕ → ℕ → Option (List Bool)
triple_text last run size = option_and_then (λ row. slice_get row (size - 1)) (slice_get (texts_of_last last) run)

-- LEVEL in two's complement of eight bits
abbrev pub byte_of : ℤ → ℕ
byte_of (pos n) = n
byte_of (negsuc n) = 255 - n

abbrev pub bit_of : Bool → ℕ
bit_of b = if b then 1 else 0

-- the escape, with LAST, RUN and LEVEL
abbrev pub escape_fields : Coefficient → List (ℕ × ℕ)
escape_fields e = (7, 3) ∷ (1, bit_of e.last) ∷ (6, e.run) ∷ (8, byte_of e.level) ∷ []

abbrev pub word_or_escape : Coefficient → Option (List Bool) → List Bool
word_or_escape e (Some w) = w ++ sign_text e.level
word_or_escape e None = fields (escape_fields e)

-- the text that is written for an event: its word and sign where it has a word, else the escape
unfoldable pub event_text : Coefficient → List Bool
event_text e = word_or_escape e (triple_text e.last e.run (size_of e.level))

-- an event of a block: RUN below 64, and a level from -127 to 127 that is not 0
pub record IsEvent (e : Coefficient) : Type 0 where
  pub run : e.run < 64
  pub some : 0 < size_of e.level
  pub level : size_of e.level < 128
