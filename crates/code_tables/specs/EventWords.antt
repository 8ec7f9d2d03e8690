-- The words of events with their signs, and the escapes with all their fields (H.263, 5.4.2), as one table.
use Rattle.std.specs.Prelude.{◌≡◌, ◌⊎◌, ℕ, ◌<◌, List, [], ◌∷◌, ◌++◌, Bool, Some}
use Rattle.h263_bits.specs.declared.fault.FaultKind.{FaultKind}
use Rattle.h263_bits.specs.declared.fault.FaultKind.TheVariants.{Ended, BadCode, BadLevel}
use Rattle.h263_bits.specs.Bits.{fields}
use Rattle.h263_bits.specs.Syntax.{IsIn}
use Rattle.h263_bits.specs.Elements.{IsCutWord, IsNoWord}
use Rattle.code_tables.specs.Words.{word}
use Rattle.code_tables.specs.Tables.{TableEvent, tcoef_words}

-- a word with its sign
pub record IsSigned (text : List Bool) : Type 0 where
  pub front : List Bool
  pub event : TableEvent
  pub sign : Bool
  pub listed : IsIn (front, Some event) tcoef_words
  pub parts : text ≡ front ++ sign ∷ []

abbrev pub escape_text : ℕ → ℕ → ℕ → List Bool
escape_text last run level = word "0000011" ++ fields ((1, last) ∷ (6, run) ∷ (8, level) ∷ [])

-- an escape whose LEVEL is neither 0 nor -128
pub record IsEscape (text : List Bool) : Type 0 where
  pub last : ℕ
  pub run : ℕ
  pub level : ℕ
  pub one : last < 2
  pub six : run < 64
  pub eight : level < 256
  pub some : level ≡ 0 → ⊥
  pub great : level ≡ 128 → ⊥
  pub parts : text ≡ escape_text last run level

-- the bits begin with an escape whose LEVEL is 0 or -128
pub record IsBadEscape (left : List Bool) : Type 0 where
  pub last : ℕ
  pub run : ℕ
  pub level : ℕ
  pub rest : List Bool
  pub one : last < 2
  pub six : run < 64
  pub bad : (level ≡ 0) ⊎ (level ≡ 128)
  pub parts : left ≡ escape_text last run level ++ rest

abbrev pub IsEventWord : List Bool → Type 0
IsEventWord text = IsSigned text ⊎ IsEscape text

-- the bits end inside a word, they are a bad escape, or there is no word
abbrev pub IsEventFault : List Bool → FaultKind → Type 0
IsEventFault left kind =
    (IsCutWord (λ w. IsEventWord w) left × (kind ≡ Ended))
    ⊎ ((IsBadEscape left × (kind ≡ BadLevel))
    ⊎ (IsNoWord (λ w. IsEventWord w) left × (IsBadEscape left → ⊥) × (kind ≡ BadCode)))
