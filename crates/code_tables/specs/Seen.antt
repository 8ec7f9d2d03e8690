-- Events and differences by their first bits, as one number: an event has 13 bits at most as a word
-- and its sign, and 22 as an escape, and a difference has 13.
use Rattle.std.specs.Prelude.{◌≡◌, ℕ, ◌≤◌, length, take, Option, Ok}
use Rattle.h263_bits.specs.Bits.{number}
use Rattle.h263_bits.specs.Reading.{Bits, skip}
use Rattle.h263_bits.specs.Syntax.{reading, word_at}
use Rattle.code_tables.specs.declared.difference_bits.SeenDifference.{SeenDifference}
use Rattle.code_tables.specs.declared.event_bits.SeenEvent.{SeenEvent}
use Rattle.code_tables.specs.Events.{coefficient_of}
use Rattle.code_tables.specs.Tables.{TableEvent, magnitude_words, mvd, tcoef_words, event, event_parts}

-- All bits of which the first n are this number begin with the word of an event, or of an escape.
abbrev pub IsWordIn : ℕ → ℕ → Option TableEvent → ℕ → Type 0
IsWordIn n seen meaning len = (b : Bits) → n ≤ length b.bits → number (take n b.bits) ≡ seen
    → word_at tcoef_words b ≡ Ok (meaning, skip len b)

-- All bits of which the first n are this number begin with this event, which has no more bits.
pub record IsFirstEvent (n : ℕ) (b : Bits) (found : SeenEvent) : Type 0 where
  pub few : found.len ≤ n
  pub read : reading event_parts b ≡ Ok (coefficient_of found.event, skip found.len b)

abbrev pub IsEventIn : ℕ → ℕ → SeenEvent → Type 0
IsEventIn n seen found = (b : Bits) → n ≤ length b.bits → number (take n b.bits) ≡ seen → IsFirstEvent n b found

-- Bits begin with this event, and have all of its own.
pub record IsNextEvent (b : Bits) (found : SeenEvent) : Type 0 where
  pub whole : found.len ≤ length b.bits
  pub read : reading event b ≡ Ok (coefficient_of found.event, skip found.len b)

-- All bits of which the first 13 are this number begin with the word of this magnitude.
abbrev pub IsMagnitudeIn : ℕ → ℕ → ℕ → Type 0
IsMagnitudeIn seen size len = (b : Bits) → 13 ≤ length b.bits → number (take 13 b.bits) ≡ seen
    → word_at magnitude_words b ≡ Ok (size, skip len b)

-- All bits of which the first 13 are this number begin with this difference.
pub record IsFirstDifference (b : Bits) (found : SeenDifference) : Type 0 where
  pub few : found.len ≤ 13
  pub read : reading mvd b ≡ Ok (found.value, skip found.len b)

abbrev pub IsDifferenceIn : ℕ → SeenDifference → Type 0
IsDifferenceIn seen found = (b : Bits) → 13 ≤ length b.bits → number (take 13 b.bits) ≡ seen → IsFirstDifference b found
