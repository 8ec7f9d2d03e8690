-- A packet of a picture: RTP's header, the payload's header, and a slice, which stands after the
-- picture header or has it as the extra one (RFC 4629, 5.1).
use Rattle.std.specs.Prelude.{◌≡◌, ℕ, ◌*◌, List, ◌++◌, Bool, Option, Some, None, Result, Ok, Err}
use Rattle.h263_bits.specs.declared.fault.Fault.{Fault}
use Rattle.h263_bits.specs.Reading.{Bits, bits_between, first_fault, ◌>>=◌}
use Rattle.h263_bits.specs.Syntax.{reading}
use Rattle.h263_types.specs.declared.format.Format.{Format}
use Rattle.h263_types.specs.declared.blocks.Mb.{Mb}
use Rattle.picture_header.specs.declared.header.Header.{Header}
use Rattle.picture_header.specs.Text.{header}
use Rattle.rtp_header.specs.declared.rtp.Rtp.{Rtp}
use Rattle.rtp_header.specs.Text.{IsRtp}
use Rattle.rtp_header.specs.Faults.{rtp_in}
use Rattle.h263_payload.specs.declared.payload.Payload.{Payload}
use Rattle.h263_payload.specs.Text.{IsPayload}
use Rattle.h263_payload.specs.Headed.{IsHeaded}
use Rattle.h263_payload.specs.Faults.{payload_at, payload_bits_of}
use Rattle.slice_layer.specs.Text.{IsSliceText, slice_at}

-- what a packet spells: the header of its picture, the number of its first macroblock, and its macroblocks
pub record PacketSlice : Type 0 where
  pub header : Header
  pub first : ℕ
  pub mbs : List Mb

-- ---- the text

-- the data after the payload's header, up to the padding
abbrev pub data_of : List ℕ → Rtp → Payload → Bits
data_of bytes rtp payload = bits_between bytes payload.from (8 * rtp.to)

-- the bytes are a packet of this slice
pub record IsPacket (format : Format) (s : PacketSlice) (bytes : List ℕ) : Type 0 where
  pub rtp : Rtp
  pub payload : Payload
  pub front : List Bool
  pub after : List Bool
  pub is_rtp : IsRtp rtp bytes
  pub is_payload : IsPayload format payload (payload_bits_of bytes rtp)
  pub parts : (data_of bytes rtp payload).bits ≡ front ++ after
  pub headed : IsHeaded format payload.extra s.header front
  pub text : IsSliceText s.header payload.begins s.first s.mbs after

-- ---- what a reader finds

-- the picture's header in front of the slice, or the extra one
abbrev pub headed_at : Format → Option Header → Bits → Result (Header × Bits) Fault
headed_at format None b = reading (header format) b
headed_at format (Some h) b = Ok (h, b)

abbrev pub with_header : Header → Result (ℕ × List Mb) Fault → Result PacketSlice Fault
with_header h (Ok s) = Ok (record { header = h; first = s.0; mbs = s.1 })
with_header h (Err fault) = Err fault

unfoldable pub slice_after : Format → Payload → Bits → Result PacketSlice Fault
slice_after format payload b =
    headed_at format payload.extra b >>= λ x. with_header x.0 (slice_at x.0 payload.begins x.1)

-- the slice that a packet spells, or its first fault at its place
unfoldable pub packet_at : Format → List ℕ → Result PacketSlice Fault
packet_at format bytes =
    rtp_in bytes >>= λ rtp. (payload_at format (payload_bits_of bytes rtp) >>= λ payload.
    slice_after format payload (data_of bytes rtp payload))

-- the first fault of a packet, if there is one
abbrev pub packet_fault : Format → List ℕ → Option Fault
packet_fault format bytes = first_fault (packet_at format bytes)
