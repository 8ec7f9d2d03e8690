-- THE FAULTS OF A PACKET: those of its parts, each after the parts before it, at the same places. A
-- row says what the parts before it spell, and knows no reader.
use Rattle.std.specs.Prelude.{◌≡◌, ℕ, ◌+◌, List, ◌++◌, length, Bool, None}
use Rattle.h263_bits.specs.declared.fault.FaultKind.{FaultKind}
use Rattle.h263_bits.specs.Elements.{IsFirstFault}
use Rattle.h263_types.specs.declared.format.Format.{Format}
use Rattle.picture_header.specs.declared.header.Header.{Header}
use Rattle.picture_header.specs.Text.{header}
use Rattle.rtp_header.specs.declared.rtp.Rtp.{Rtp}
use Rattle.rtp_header.specs.Text.{IsRtp}
use Rattle.rtp_header.specs.Rows.{IsRtpFault}
use Rattle.h263_payload.specs.declared.payload.Payload.{Payload}
use Rattle.h263_payload.specs.Text.{IsPayload}
use Rattle.h263_payload.specs.Headed.{IsHeaded}
use Rattle.h263_payload.specs.Faults.{payload_bits_of}
use Rattle.h263_payload.specs.Rows.{IsPayloadFault}
use Rattle.slice_layer.specs.Faults.{IsSliceFault}
use Rattle.packet_collector.specs.Packet.{data_of}

-- the bytes are an RTP packet, and what it carries is a payload
pub record CarriesPayload (format : Format) (bytes : List ℕ) (rtp : Rtp) (payload : Payload) : Type 0 where
  pub is_rtp : IsRtp rtp bytes
  pub is_payload : IsPayload format payload (payload_bits_of bytes rtp)

-- The bytes have this fault first, at this bit.
pub data IsPacketFault (format : Format) (bytes : List ℕ) : FaultKind → ℕ → Type 0 where
  in_rtp : (kind : FaultKind) (at : ℕ) → IsRtpFault bytes kind at → IsPacketFault format bytes kind at
  in_payload : (rtp : Rtp) (kind : FaultKind) (at : ℕ) → IsRtp rtp bytes
      → IsPayloadFault format (payload_bits_of bytes rtp) kind at → IsPacketFault format bytes kind at
  -- the picture header in front of the slice, where there is no extra one
  in_header : (rtp : Rtp) (payload : Payload) (kind : FaultKind) (at : ℕ)
      → CarriesPayload format bytes rtp payload → payload.extra ≡ None
      → IsFirstFault (header format) (data_of bytes rtp payload) (record { kind = kind; at = at })
      → IsPacketFault format bytes kind at
  -- the slice after it, up to the padding
  in_slice : (rtp : Rtp) (payload : Payload) (h : Header) (front rest : List Bool)
      (kind : FaultKind) (at : ℕ) → CarriesPayload format bytes rtp payload
      → (data_of bytes rtp payload).bits ≡ front ++ rest → IsHeaded format payload.extra h front
      → IsSliceFault h payload.begins
      (record { at = payload.from + length front; bits = rest }) (record { kind = kind; at = at })
      → IsPacketFault format bytes kind at
