-- THE FAULTS OF AN RTP PACKET (RFC 3550, 5.1, 5.3.1), in the order in which they are looked for.
-- A row says what the packet holds, in its fields and its bytes, and knows no reader.
use Rattle.std.specs.Prelude.{◌≡◌, ◌⊎◌, ℕ, ◌-◌, ◌*◌, ◌<◌, ◌≤◌, ◌^◌, List, [], ◌∷◌, ◌++◌, length, slice_index, Bool}
use Rattle.h263_bits.specs.declared.fault.FaultKind.{FaultKind}
use Rattle.h263_bits.specs.declared.fault.FaultKind.TheVariants as faults
use Rattle.h263_bits.specs.Bits.{bits_of, fields}
use Rattle.h263_bits.specs.Syntax.{Spells}
use Rattle.rtp_header.specs.Text.{Head, head, rtp_front, IsPadding}

-- the bytes are not too many, and begin with this fixed header; these bits come after it
pub record Begins (bytes : List ℕ) (h : Head) (left : List Bool) : Type 0 where
  pub few : length bytes ≤ 65535
  pub fixed : List Bool
  pub text : Spells head h fixed
  pub parts : bits_of bytes ≡ fixed ++ left

-- an extension ends inside its first four bytes, or inside its words
abbrev pub EndsInExtension : List Bool → Type 0
EndsInExtension left =
    (length left < 32)
    ⊎ ((profile words : ℕ) × (contents : List Bool) × (profile < 2 ^ 16) × (words < 2 ^ 16)
    × (left ≡ fields ((16, profile) ∷ (16, words) ∷ []) ++ contents) × (length contents < 32 * words))

-- the bits after the fixed header end inside the sources, or with X set inside the extension
abbrev pub EndsInside : Head → List Bool → Type 0
EndsInside h left =
    (length left < 32 * h.sources)
    ⊎ ((h.extension ≡ 0 → ⊥) × (sources after_fixed : List Bool)
    × (length sources ≡ 32 * h.sources) × (left ≡ sources ++ after_fixed) × EndsInExtension after_fixed)

-- the packet is of version 2, its sources and its extension are whole, and these bytes come after them
pub record Carries (bytes : List ℕ) (h : Head) (rest : List ℕ) : Type 0 where
  pub few : length bytes ≤ 65535
  pub version : h.version ≡ 2
  pub front : List ℕ
  pub text : Spells rtp_front h (bits_of front)
  pub parts : bytes ≡ front ++ rest

-- these are a payload and the padding after it, which is there where P is set
pub record IsWholePayload (bytes : List ℕ) (h : Head) : Type 0 where
  pub payload : List ℕ
  pub padding : List ℕ
  pub carries : Carries bytes h (payload ++ padding)
  pub padded : IsPadding h.padding padding

-- The bytes have this fault first, at this bit.
pub data IsRtpFault (bytes : List ℕ) : FaultKind → ℕ → Type 0 where
  long : 65535 < length bytes → IsRtpFault bytes faults.Long 0
  -- no fixed header
  short : length bytes < 12 → IsRtpFault bytes faults.Short (8 * length bytes)
  version : (h : Head) (left : List Bool)
      → Begins bytes h left → (h.version ≡ 2 → ⊥) → IsRtpFault bytes faults.Version 0
  -- sources or extension pass the end
  short_after_fixed : (h : Head) (left : List Bool) → Begins bytes h left → h.version ≡ 2 → EndsInside h left
      → IsRtpFault bytes faults.Short (8 * length bytes)
  -- P is set, and the last byte counts nothing, or more than there is after the header
  padding : (h : Head) (rest : List ℕ) → Carries bytes h rest → (h.padding ≡ 0 → ⊥)
      → (slice_index bytes (length bytes - 1) ≡ 0) ⊎ (length rest < slice_index bytes (length bytes - 1))
      → IsRtpFault bytes faults.Padding (8 * length bytes - 8)
  type : (h : Head) → IsWholePayload bytes h → (h.type ≡ 96 → ⊥) → IsRtpFault bytes faults.PayloadType 9
  source : (h : Head) → IsWholePayload bytes h
      → h.type ≡ 96 → (h.source ≡ 1211250227 → ⊥) → IsRtpFault bytes faults.Source 64
