-- THE FAULTS OF A PAYLOAD (RFC 4629, 5.1), in the order in which its parts are read. A row says what
-- the bits hold, part by part, and knows no reader.
use Rattle.std.specs.Prelude.{◌≡◌, ℕ, ◌+◌, ◌*◌, ◌<◌, ◌≤◌, List, ◌∷◌, ◌++◌, length, Bool, true, false, Option, Some, None}
use Rattle.h263_types.specs.declared.format.Format.{Format}
use Rattle.h263_bits.specs.declared.fault.FaultKind.{FaultKind}
use Rattle.h263_bits.specs.declared.fault.FaultKind.TheVariants as faults
use Rattle.h263_bits.specs.Reading.{Bits}
use Rattle.h263_bits.specs.Syntax.{Spells}
use Rattle.h263_bits.specs.Elements.{IsFirstFault}
use Rattle.picture_header.specs.declared.header.Header.{Header}
use Rattle.picture_header.specs.Text.{header, IsHeaderText}
use Rattle.h263_payload.specs.declared.payload.Opening.{Opening}
use Rattle.h263_payload.specs.Text.{leading, IsExtra}

-- bits from a place on
abbrev pub from : ℕ → List Bool → Bits
from at bits = record { at = at; bits = bits }

-- the bits begin with the fields of the payload header, which these come after
pub record Leads (b : Bits) (o : Opening) (at : ℕ) (left : List Bool) : Type 0 where
  pub front : List Bool
  pub text : Spells leading o front
  pub parts : b.bits ≡ front ++ left
  pub place : at ≡ b.at + length front

-- and with the extra header after them, if there is one; this is the data
pub record ReachesData (format : Format) (b : Bits) (extra : Option Header) (at : ℕ) (coded : List Bool) : Type 0 where
  pub opening : Opening
  pub start : ℕ
  pub middle : List Bool
  pub leads : Leads b opening start (middle ++ coded)
  pub text : IsExtra format opening.plen opening.pebit extra middle
  pub place : at ≡ start + length middle

-- The bits have this fault first, at this bit.
pub data IsPayloadFault (format : Format) (b : Bits) : FaultKind → ℕ → Type 0 where
  -- RR, P, V, PLEN and PEBIT, and where V is set the byte after them
  in_leading : (kind : FaultKind) (at : ℕ)
      → IsFirstFault leading b (record { kind = kind; at = at }) → IsPayloadFault format b kind at
  -- the extra header's PLEN bytes are cut, as one
  cut_extra : (o : Opening) (at : ℕ) (left : List Bool) → Leads b o at left → 0 < o.plen
      → length left < 8 * o.plen → IsPayloadFault format b faults.Ended at
  -- a fault of the picture header in them, less PEBIT bits
  in_extra : (o : Opening) (start : ℕ) (extra left : List Bool) (kind : FaultKind) (at : ℕ)
      → Leads b o start (extra ++ left) → 0 < o.plen
      → length extra + o.pebit ≡ 8 * o.plen → o.pebit ≤ length left
      → IsFirstFault (header format) (from start extra) (record { kind = kind; at = at })
      → IsPayloadFault format b kind at
  -- bits are left after the last PEI
  left_over : (o : Opening) (start : ℕ) (h : Header) (text more left : List Bool)
      → Leads b o start (text ++ (more ++ left)) → 0 < o.plen → IsHeaderText format h text
      → 0 < length more → length text + length more + o.pebit ≡ 8 * o.plen → o.pebit ≤ length left
      → IsPayloadFault format b faults.ExtraHeader (start + length text)
  -- the data's first two bits
  cut_data : (extra : Option Header) (at : ℕ) (coded : List Bool)
      → ReachesData format b extra at coded → length coded < 2 → IsPayloadFault format b faults.Ended at
  no_start : (extra : Option Header) (at : ℕ) (second : Bool) (rest : List Bool)
      → ReachesData format b extra at (false ∷ second ∷ rest) → IsPayloadFault format b faults.NoStart at
  -- 10 begins a picture, which has no extra header, and 11 a later slice, which has one
  picture : (h : Header) (at : ℕ) (rest : List Bool) → ReachesData format b (Some h) at (true ∷ false ∷ rest)
      → IsPayloadFault format b faults.ExtraHeader at
  slice : (at : ℕ) (rest : List Bool) → ReachesData format b None at (true ∷ true ∷ rest)
      → IsPayloadFault format b faults.NoExtraHeader at
