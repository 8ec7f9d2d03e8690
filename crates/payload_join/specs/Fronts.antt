-- What stands before a part, and the picture header that it copies.
use Rattle.std.specs.Prelude.{ℕ, ◌*◌, nat_le, List, ◌++◌, length, take, false, Option, Some, None, Result, Ok, Err, if◌then◌else◌}
use Rattle.h263_bits.specs.declared.fault.Fault.{Fault}
use Rattle.h263_bits.specs.Bits.{fields}
use Rattle.h263_bits.specs.Reading.{Bits}
use Rattle.h263_bits.specs.Syntax.{reading}
use Rattle.h263_types.specs.declared.format.Format.{Format}
use Rattle.picture_header.specs.declared.header.Header.{Header}
use Rattle.picture_header.specs.Text.{header}
use Rattle.rtp_header.specs.Text.{from_byte}
use Rattle.rtp_header.specs.Written.{rtp_fields}
use Rattle.h263_payload.specs.Written.{payload_opening_fields}
use Rattle.payload_join.specs.declared.front.Front.{Front}
use Rattle.payload_join.specs.Packet.{Extra}
use Rattle.h263_bits.specs.Bytes.{bytes_filled}

-- the bytes of a front
abbrev pub bytes_of_front : Front → List ℕ
bytes_of_front f = take f.len f.bytes

-- RTP's header, and the payload header with its extra one
abbrev pub front_by : ℕ → ℕ → Extra → List ℕ
front_by sequence timestamp extra =
    bytes_filled 14 (fields (rtp_fields false sequence timestamp)
    ++ fields (payload_opening_fields (length extra.bytes) extra.pebit))
    ++ extra.bytes

-- where the picture header ends that coded bytes begin with, if it takes 63 bytes at most
abbrev pub end_as : Result (Header × Bits) Fault → Option ℕ
end_as (Err fault) = None
end_as (Ok x) = if nat_le x.1.at (8 * 63) then Some x.1.at else None

unfoldable pub header_end : Format → List ℕ → Option ℕ
header_end format coded = end_as (reading (header format) (from_byte 0 coded))
