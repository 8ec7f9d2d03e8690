-- What the laws of the layers below say of a packet's parts.
use Rattle.std.specs.Prelude.{◌≡◌, ◌↔◌, ℕ, List, Bool, Ok, Err}
use Rattle.h263_bits.specs.declared.fault.Fault.{Fault}
use Rattle.h263_bits.specs.Reading.{Bits}
use Rattle.h263_bits.specs.Syntax.{reading}
use Rattle.h263_bits.specs.Elements.{IsFirstFault}
use Rattle.h263_types.specs.declared.format.Format.{Format}
use Rattle.h263_types.specs.declared.blocks.Mb.{Mb}
use Rattle.picture_header.specs.declared.header.Header.{Header}
use Rattle.picture_header.specs.Text.{header}
use Rattle.picture_header.specs.Laws.{HeaderLaws}
use Rattle.rtp_header.specs.declared.rtp.Rtp.{Rtp}
use Rattle.rtp_header.specs.Text.{IsRtp}
use Rattle.rtp_header.specs.Faults.{rtp_in}
use Rattle.rtp_header.specs.Rows.{IsRtpFault}
use Rattle.h263_payload.specs.declared.payload.Payload.{Payload}
use Rattle.h263_payload.specs.Text.{IsPayload}
use Rattle.h263_payload.specs.Faults.{payload_at}
use Rattle.h263_payload.specs.Rows.{IsPayloadFault}
use Rattle.slice_layer.specs.Text.{IsSliceText, slice_at}
use Rattle.slice_layer.specs.Faults.{IsSliceFault}

-- each part is read exactly where it is spelled
pub record PartLaws : Type 0 where
  pub headers : HeaderLaws
  pub rtp_read : (r : Rtp) (bytes : List ℕ) → rtp_in bytes ≡ Ok r → IsRtp r bytes
  pub rtp_written : (r : Rtp) (bytes : List ℕ) → IsRtp r bytes → rtp_in bytes ≡ Ok r
  pub payload_read : (format : Format) (p : Payload) (b : Bits) → payload_at format b ≡ Ok p → IsPayload format p b
  pub payload_written : (format : Format) (p : Payload) (b : Bits) → IsPayload format p b → payload_at format b ≡ Ok p
  pub slices : (h : Header) (begins : Bool) (first : ℕ) (mbs : List Mb) (b : Bits)
      → (slice_at h begins b ≡ Ok (first, mbs)) ↔ IsSliceText h begins first mbs b.bits

-- each part has the fault that its table has
pub record FaultLaws : Type 0 where
  pub rtp : (bytes : List ℕ) (fault : Fault) → (rtp_in bytes ≡ Err fault) ↔ IsRtpFault bytes fault.kind fault.at
  pub payload : (format : Format) (b : Bits) (fault : Fault)
      → (payload_at format b ≡ Err fault) ↔ IsPayloadFault format b fault.kind fault.at
  pub headers : (format : Format) (b : Bits) (fault : Fault)
      → (reading (header format) b ≡ Err fault) ↔ IsFirstFault (header format) b fault
  pub slices : (h : Header) (begins : Bool) (b : Bits) (fault : Fault)
      → (slice_at h begins b ≡ Err fault) ↔ IsSliceFault h begins b fault
