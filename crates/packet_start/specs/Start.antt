-- The start of a packet: the header of its picture, which stands in front of its slice, or as the
-- extra one (RFC 4629, 5.1).
use Rattle.std.specs.Prelude.{ℕ, List, Option, Some, Result, Ok, Err}
use Rattle.std.specs.Result.{result_ok}
use Rattle.h263_bits.specs.declared.fault.Fault.{Fault}
use Rattle.h263_bits.specs.Reading.{Bits, ◌>>=◌}
use Rattle.h263_types.specs.declared.format.Format.{Format}
use Rattle.h263_types.specs.declared.format.Format.TheVariants.{SubQcif, Qcif, Cif}
use Rattle.picture_header.specs.declared.header.Header.{Header}
use Rattle.rtp_header.specs.Faults.{rtp_in}
use Rattle.h263_payload.specs.Faults.{payload_at, payload_bits_of}
use Rattle.packet_collector.specs.Packet.{data_of, headed_at}

-- what was read, whatever is left
abbrev pub header_alone : Result (Header × Bits) Fault → Result Header Fault
header_alone (Ok x) = Ok x.0
header_alone (Err fault) = Err fault

-- the header of a packet's picture, or the first fault up to its end
unfoldable pub start_at : Format → List ℕ → Result Header Fault
start_at format bytes =
    rtp_in bytes >>= λ rtp. (payload_at format (payload_bits_of bytes rtp) >>= λ payload.
    header_alone (headed_at format payload.extra (data_of bytes rtp payload)))

-- the first of two, if it is one
abbrev pub header_or_else : Result Header Fault → Option Header → Option Header
header_or_else (Ok h) other = Some h
header_or_else (Err fault) other = other

-- the header in the first of the formats in which the packet has one
unfoldable pub start_in : List ℕ → Option Header
start_in bytes = header_or_else (start_at SubQcif bytes)
    (header_or_else (start_at Qcif bytes) (result_ok (start_at Cif bytes)))
