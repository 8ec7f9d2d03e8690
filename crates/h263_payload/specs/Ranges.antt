-- What was read is in its ranges.
use Rattle.std.specs.Prelude.{◌+◌, ◌*◌, ◌<◌, ◌≤◌, Option, Some, None}
use Rattle.picture_header.specs.declared.header.Header.{Header}
use Rattle.picture_header.specs.Ranges.{IsHeader}
use Rattle.rtp_header.specs.declared.rtp.Rtp.{Rtp}
use Rattle.h263_payload.specs.declared.payload.Opening.{Opening}
use Rattle.h263_payload.specs.declared.payload.Payload.{Payload}

-- six and three bits
pub record IsPayloadOpening (o : Opening) : Type 0 where
  pub plen : o.plen < 64
  pub pebit : o.pebit < 8

-- a header in its ranges, if there is one
abbrev pub IsExtraHeader : Option Header → Type 0
IsExtraHeader None = Unit {0}
IsExtraHeader (Some h) = IsHeader h

-- the data has two bits at least, and stands after the payload header's 16
pub record IsAfterHeader (p : Payload) (rtp : Rtp) : Type 0 where
  pub extra : IsExtraHeader p.extra
  pub from : 8 * rtp.from + 16 ≤ p.from
  pub two : p.from + 2 ≤ 8 * rtp.to
