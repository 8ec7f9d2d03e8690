-- A packet has its first fault where a row of the table has it, and nowhere else.
use Rattle.std.proofs.Common.{Bool, ◌≡◌, ℕ, ◌+◌, refl, sym, ap, subst, ◌∙◌, inl, inr, List, [], ◌++◌, length, Option, Some, None, Result, Ok, Err, arith}
use Rattle.std.specs.Prelude.{◌↔◌}
use Rattle.h263_bits.specs.declared.fault.Fault.{Fault}
use Rattle.h263_bits.specs.declared.fault.FaultKind.{FaultKind}
use Rattle.h263_bits.specs.Reading.{Bits, ok, err, ◌>>=◌}
use Rattle.h263_bits.specs.Syntax.{reading}
use Rattle.h263_bits.proofs.SyntaxLaws.{stands, err_is, err_not_ok, ok_is, bind_err, sound, complete}
use Rattle.h263_types.specs.declared.format.Format.{Format}
use Rattle.h263_types.specs.declared.blocks.Mb.{Mb}
use Rattle.picture_header.specs.declared.header.Header.{Header}
use Rattle.picture_header.specs.Text.{header}
use Rattle.rtp_header.specs.declared.rtp.Rtp.{Rtp}
use Rattle.rtp_header.specs.Faults.{rtp_in}
use Rattle.h263_payload.specs.declared.payload.Payload.{Payload}
use Rattle.h263_payload.specs.Headed.{IsHeaded}
use Rattle.h263_payload.specs.Faults.{payload_at, payload_bits_of}
use Rattle.slice_layer.specs.Text.{slice_at}
use Rattle.slice_layer.specs.Faults.{IsSliceFault}
use Rattle.packet_collector.specs.Laws.{PartLaws, FaultLaws}
use Rattle.packet_collector.specs.Packet.{PacketSlice, data_of, headed_at, with_header, slice_after, packet_at}
use Rattle.packet_collector.specs.Rows.{CarriesPayload, IsPacketFault, in_rtp, in_payload, in_header, in_slice}

-- ---- what a row has is found

of_rtp : (format : Format) (bytes : List ℕ) (fault : Fault) → rtp_in bytes ≡ Err fault → packet_at format bytes
    ≡ Err fault
unfolding packet_at
of_rtp format bytes fault e = rw e refl

of_payload : (format : Format) (bytes : List ℕ) (fault : Fault) (rtp : Rtp) → rtp_in bytes ≡ Ok rtp
    → payload_at format (payload_bits_of bytes rtp) ≡ Err fault → packet_at format bytes ≡ Err fault
unfolding packet_at
of_payload format bytes fault rtp one e = rw (one, e) refl

-- after the payload header
after_payload : (format : Format) (bytes : List ℕ) (fault : Fault) (rtp : Rtp) (payload : Payload)
    → rtp_in bytes ≡ Ok rtp → payload_at format (payload_bits_of bytes rtp) ≡ Ok payload
    → slice_after format payload (data_of bytes rtp payload) ≡ Err fault → packet_at format bytes ≡ Err fault
unfolding packet_at
after_payload format bytes fault rtp payload one two e = rw (one, two) e

of_header : (format : Format) (fault : Fault) (payload : Payload) (b : Bits) → payload.extra ≡ None
    → reading (header format) b ≡ Err fault → slice_after format payload b ≡ Err fault
unfolding slice_after
of_header format fault payload b none e = let headed : headed_at format payload.extra b
    ≡ Err fault = ap (λ (x : Option Header). headed_at format x b) none ∙ e in rw headed refl

of_slice : (format : Format) (fault : Fault) (payload : Payload) (b left : Bits) (h : Header)
    → headed_at format payload.extra b ≡ Ok (h, left) → slice_at h payload.begins left ≡ Err fault
    → slice_after format payload b ≡ Err fault
unfolding slice_after
of_slice format fault payload b left h headed e = rw (headed, e) refl

-- what stands before the slice is its header, or there is an extra one
headed_again : PartLaws → (format : Format) (extra : Option Header) (h : Header) (at : ℕ) (front rest : List Bool)
    → IsHeaded format extra h front
    → headed_at format extra (record { at = at; bits = front ++ rest })
    ≡ Ok (h, record { at = at + length front; bits = rest })
headed_again laws format None h at front rest t = complete (header format) h front rest at
    (laws.headers.productive format) t
headed_again laws format (Some x) h at front rest t =
    let bits : front ++ rest ≡ rest = ap (λ (f : List Bool). f ++ rest) t.1 in
    let place : at ≡ at + length front = omega (arith, ap length t.1) in
    let here : Bits = record { at = at; bits = front ++ rest } in
    let headers : ok {A = Header × Bits} (x, here)
    ≡ ok (h, here) = ap (λ (y : Header). ok {A = Header × Bits} (y, here)) t.0 in
    headers ∙ ap (λ (b : List Bool). ok {A = Header × Bits} (h, record { at = at; bits = b })) bits
    ∙ ap (λ (n : ℕ). ok {A = Header × Bits} (h, record { at = n; bits = rest })) place

carried : PartLaws → (format : Format) (bytes : List ℕ) (rtp : Rtp) (payload : Payload)
    → CarriesPayload format bytes rtp payload
    → (rtp_in bytes ≡ Ok rtp) × (payload_at format (payload_bits_of bytes rtp) ≡ Ok payload)
carried laws format bytes rtp payload c = (
  laws.rtp_written rtp bytes c.is_rtp,
  laws.payload_written format payload (payload_bits_of bytes rtp) c.is_payload,
)

from_row : PartLaws → FaultLaws → (format : Format) (bytes : List ℕ) (kind : FaultKind) (at : ℕ)
    → IsPacketFault format bytes kind at → packet_at format bytes ≡ Err (stands kind at)
from_row laws faults format bytes kind at (in_rtp k p r) = of_rtp format bytes (stands k p)
    ((faults.rtp bytes (stands k p)).1 r)
from_row laws faults format bytes kind at (in_payload rtp k p is r) =
    of_payload format bytes (stands k p) rtp (laws.rtp_written rtp bytes is)
    ((faults.payload format (payload_bits_of bytes rtp) (stands k p)).1 r)
from_row laws faults format bytes kind at (in_header rtp payload k p c none f) =
    let parts = carried laws format bytes rtp payload c in
    after_payload format bytes (stands k p) rtp payload parts.0 parts.1 (of_header format (stands k p) payload
    (data_of bytes rtp payload) none ((faults.headers format (data_of bytes rtp payload) (stands k p)).1 f))
from_row laws faults format bytes kind at (in_slice rtp payload h front rest k p c split headed f) =
    let parts = carried laws format bytes rtp payload c in
    let left : Bits = record { at = payload.from + length front; bits = rest } in
    let read : headed_at format payload.extra (data_of bytes rtp payload) ≡ Ok (h, left) =
    ap (λ (t : List Bool). headed_at format payload.extra (record { at = payload.from; bits = t })) split
    ∙ headed_again laws format payload.extra h payload.from front rest headed in
    after_payload format bytes (stands k p) rtp payload parts.0 parts.1 (of_slice format (stands k p) payload
    (data_of bytes rtp payload) left h read ((faults.slices h payload.begins left (stands k p)).1 f))

-- ---- what is found is in a row

with_err : (h : Header) (r : Result (ℕ × List Mb) Fault) (fault : Fault) → with_header h r ≡ Err fault → r ≡ Err fault
with_err h (Ok x) fault e = absurd (err_not_ok fault (record { header = h; first = x.0; mbs = x.1 }) (sym e))
with_err h (Err d) fault e = ap (λ (c : Fault). err {A = ℕ × List Mb} c) (err_is {A = PacketSlice} d fault e)

-- a header that was read stands in front of what is left
headed_found : (format : Format) (extra : Option Header) (h : Header) (b c : Bits) → headed_at format extra b
    ≡ Ok (h, c) → (front : List Bool) × (b.bits ≡ front ++ c.bits) × (c.at ≡ b.at + length front)
    × IsHeaded format extra h front
headed_found format None h b c e = let t = sound (header format) b c h e in (t.0, t.1.parts, t.1.at, t.2)
headed_found format (Some x) h b c e =
    let same = ok_is (x, b) (h, c) e in
    let left : c ≡ b = ap (λ (y : Header × Bits). y.1) (sym same) in (
      [],
      ap (λ (d : Bits). d.bits) (sym left),
      omega (arith, ap (λ (d : Bits). d.at) left),
      (ap (λ (y : Header × Bits). y.0) same, refl),
    )

headed_err : (format : Format) (extra : Option Header) (b : Bits) (fault : Fault) → headed_at format extra b ≡ Err fault
    → (extra ≡ None) × (reading (header format) b ≡ Err fault)
headed_err format None b fault e = (refl, e)
headed_err format (Some x) b fault e = absurd (err_not_ok fault (x, b) (sym e))

at_slice : FaultLaws → (format : Format) (bytes : List ℕ) (rtp : Rtp) (payload : Payload) (fault : Fault)
    → CarriesPayload format bytes rtp payload → slice_after format payload (data_of bytes rtp payload) ≡ Err fault
    → IsPacketFault format bytes fault.kind fault.at
unfolding slice_after
at_slice faults format bytes rtp payload fault c e =
    let b = data_of bytes rtp payload in
    elim (bind_err (headed_at format payload.extra b)
    (λ x. with_header x.0 (slice_at x.0 payload.begins x.1)) fault e) [
      | inl f ↦
          let g = headed_err format payload.extra b fault f in
          in_header rtp payload fault.kind fault.at c g.0 ((faults.headers format b fault).0 g.1)
      | inr f ↦
          let h = f.0.0 in
          let left = f.0.1 in
          let g = headed_found format payload.extra h b left f.1 in
          let place : left ≡ record { at = payload.from + length g.0; bits = left.bits } =
          ap (λ (n : ℕ). record { at = n; bits = left.bits }) g.2 in
          let found = (faults.slices h payload.begins left fault).0
          (with_err h (slice_at h payload.begins left) fault f.2) in
          in_slice rtp payload h g.0 left.bits fault.kind fault.at c g.1 g.3
          (subst (λ (d : Bits). IsSliceFault h payload.begins d fault) place found)
    ]

to_row : PartLaws → FaultLaws → (format : Format) (bytes : List ℕ) (fault : Fault) → packet_at format bytes ≡ Err fault
    → IsPacketFault format bytes fault.kind fault.at
unfolding packet_at
to_row laws faults format bytes fault e =
    elim (bind_err (rtp_in bytes) (λ rtp. payload_at format (payload_bits_of bytes rtp) >>=
    λ payload. slice_after format payload (data_of bytes rtp payload)) fault e) [
      | inl f ↦ in_rtp fault.kind fault.at ((faults.rtp bytes fault).0 f)
      | inr f ↦
          let rtp = f.0 in
          let is = laws.rtp_read rtp bytes f.1 in
          elim (bind_err (payload_at format (payload_bits_of bytes rtp)) (λ payload. slice_after format payload
          (data_of bytes rtp payload)) fault f.2) [
            | inl g ↦ in_payload rtp fault.kind fault.at is ((faults.payload format (payload_bits_of bytes rtp) fault).0
                g)
            | inr g ↦ at_slice faults format bytes rtp g.0 fault (record {
              is_rtp = is;
              is_payload = laws.payload_read format g.0 (payload_bits_of bytes rtp) g.1;
            }) g.2
          ]
    ]

pub first_faults : PartLaws → FaultLaws → (format : Format) (bytes : List ℕ) (fault : Fault)
    → (packet_at format bytes ≡ Err fault) ↔ IsPacketFault format bytes fault.kind fault.at
first_faults laws faults format bytes fault = (
  λ e. to_row laws faults format bytes fault e,
  λ r. from_row laws faults format bytes fault.kind fault.at r,
)
