-- The faults of words (H.263, 5.3 and 5.4.2), each at its word's first bit: a word is cut exactly
-- where the bits that are left are a proper prefix of one, and there is none exactly where none
-- begins them and none goes on from them.
use Rattle.std.specs.Prelude.{◌≡◌, ◌↔◌, ℕ, ℤ, ◌<◌, List, [], ◌∷◌, ◌++◌, Bool, Some, Err}
use Rattle.h263_types.specs.declared.Kind.{Kind}
use Rattle.h263_bits.specs.declared.fault.Fault.{Fault}
use Rattle.h263_bits.specs.declared.fault.FaultKind.TheVariants.{Ended, BadCode, BadLevel}
use Rattle.h263_bits.specs.Bits.{fields}
use Rattle.h263_bits.specs.Reading.{Bits}
use Rattle.h263_bits.specs.Syntax.{Syntax, IsIn, Spells, reading}
use Rattle.h263_bits.specs.Elements.{IsWordOf, IsWordFault, HasFault, EndsWithFault}
use Rattle.code_tables.specs.Words.{word}
use Rattle.code_tables.specs.Mcbpc.{mcbpc, mcbpc_words, dquant, dquant_words}
use Rattle.code_tables.specs.Tables.{TableEvent, cbpy, cbpy_words, mvd, mvd_words, tcoef_words, event}

-- the faults of a syntax are those of such words
abbrev pub HasWordFaults : {A : Type 0} → Syntax A → (List Bool → Type 0) → Type 0
HasWordFaults s IsWord = (b : Bits) (d : Fault)
    → (reading s b ≡ Err d) ↔ ((d.at ≡ b.at) × IsWordFault IsWord b.bits d.kind)

pub record AreWords : Type 0 where
  pub mcbpc : (kind : Kind) → HasWordFaults (mcbpc kind) (λ w. IsWordOf (mcbpc_words kind) w)
  pub cbpy : (intra : Bool) → HasWordFaults (cbpy intra) (λ w. IsWordOf cbpy_words w)
  pub dquant : HasWordFaults dquant (λ w. IsWordOf dquant_words w)
  -- MVD by its words with their signs, one for each difference that there is: each text is one of them
  pub mvd_text : (value : ℤ) (text : List Bool) → Spells mvd value text → IsIn (text, value) mvd_words
  pub mvd : HasWordFaults mvd (λ w. IsWordOf mvd_words w)

-- what is no word: more zeros than any word of MCBPC and CBPY begins with, and 32 with plus
pub record HaveBadCodes : Type 0 where
  pub mcbpc : (kind : Kind) → HasFault (mcbpc kind) (word "000000000") BadCode 0
  pub cbpy : (intra : Bool) → HasFault (cbpy intra) (word "000000") BadCode 0
  pub mvd : HasFault mvd (word "000000000010" ++ word "0") BadCode 0
  pub event : HasFault event (word "000000000") BadCode 0

-- an event with its sign, or as an escape, is one element
pub record HasEventFaults : Type 0 where
  -- the sign is cut
  pub sign : (w : List Bool) (e : TableEvent) → IsIn (w, Some e) tcoef_words → EndsWithFault event w Ended 0
  -- LEVEL of an escape is 0 or -128
  pub level_0 : (last run : ℕ) → last < 2 → run < 64
      → HasFault event (word "0000011" ++ fields ((1, last) ∷ (6, run) ∷ (8, 0) ∷ [])) BadLevel 0
  pub level_128 : (last run : ℕ) → last < 2 → run < 64
      → HasFault event (word "0000011" ++ fields ((1, last) ∷ (6, run) ∷ (8, 128) ∷ [])) BadLevel 0

pub record WordFaults : Type 0 where
  pub words : AreWords
  pub bad : HaveBadCodes
  pub events : HasEventFaults
