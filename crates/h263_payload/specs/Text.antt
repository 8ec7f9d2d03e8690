-- The payload header in front of H.263 data (RFC 4629, 5.1), with the extra picture header, and the
-- data's first two bits.
use Rattle.std.specs.Prelude.{◌≡◌, ℕ, ◌+◌, ◌*◌, ◌<◌, ◌==◌, Bool, true, false, not, List, [], ◌∷◌, ◌++◌, length, Option, Some, None, is_none}
use Rattle.h263_bits.specs.declared.fault.FaultKind.TheVariants as faults
use Rattle.h263_bits.specs.Reading.{Bits}
use Rattle.h263_bits.specs.Syntax.{Syntax, Allowed, any, only, done, field, part, either, Spells}
use Rattle.h263_types.specs.declared.format.Format.{Format}
use Rattle.picture_header.specs.declared.header.Header.{Header}
use Rattle.picture_header.specs.Text.{IsHeaderText}
use Rattle.h263_payload.specs.declared.payload.Opening.{Opening}
use Rattle.h263_payload.specs.declared.payload.Payload.{Payload}

-- P is set where the data begins with a start code, whose two zero bytes are left out; a packet
-- that follows on another may be refused
abbrev pub may_follow : Bool → Allowed ℕ
may_follow true = any
may_follow false = only 1 faults.FollowOn

-- RR, P, V, PLEN and PEBIT
unfoldable pub payload_opening : Bool → Syntax Opening
payload_opening follow_on =
    field 5 any λ rr.
    field 1 (may_follow follow_on) λ p.
    field 1 any λ v.
    field 6 any λ plen.
    field 3 any λ pebit.
    done (record { p = p == 1; v = v == 1; plen = plen; pebit = pebit })

-- these of a packet that doesn't follow on another, and where V is set the byte of video redundancy coding (5.2)
unfoldable pub leading : Syntax Opening
leading =
    part (payload_opening false) any λ o.
    either o.v (field 8 any λ redundancy. done o) (done o)

-- the extra picture header takes PLEN bytes, of which the last PEBIT bits are left out
abbrev pub IsExtra : Format → ℕ → ℕ → Option Header → List Bool → Type 0
IsExtra format plen pebit None bits = (plen ≡ 0) × (bits ≡ [])
IsExtra format plen pebit (Some h) bits =
    (text : List Bool) × (rest : List Bool) × (bits ≡ text ++ rest)
    × (0 < plen) × (length bits ≡ 8 * plen) × (length rest ≡ pebit) × IsHeaderText format h text

-- the rest of a start code: 10 begins a picture, 11 a later slice (H.263, 5.1.1 and K.2)
abbrev pub IsStartCodeRest : Bool → List Bool → Type 0
IsStartCodeRest begins coded = (rest : List Bool) × (coded ≡ true ∷ not begins ∷ rest)

-- the bits from a place on are a payload: its header, and data after it
pub record IsPayload (format : Format) (p : Payload) (b : Bits) : Type 0 where
  pub opening : Opening
  pub front : List Bool
  pub middle : List Bool
  pub coded : List Bool
  pub parts : b.bits ≡ front ++ (middle ++ coded)
  pub opened : Spells leading opening front
  pub extra : IsExtra format opening.plen opening.pebit p.extra middle
  pub begun : IsStartCodeRest p.begins coded
  -- a picture has no extra header, and a later slice has one
  pub begins : p.begins ≡ is_none p.extra
  pub from : p.from ≡ b.at + (length front + length middle)
