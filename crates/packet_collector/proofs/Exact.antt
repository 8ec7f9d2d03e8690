-- Bytes are read as a packet exactly where they are one.
use Rattle.std.proofs.Common.{◌≡◌, ℕ, ◌+◌, ◌<◌, ◌≤◌, List, [], ◌++◌, length, drop, Option, Some, None, Bool, Result, Ok, Err, refl, sym, ap, subst, ◌∙◌, arith}
use Rattle.std.specs.Prelude.{IfOk, IsOkAnd}
use Rattle.std.proofs.lemmas.List.{length-take-le, length-drop}
use Rattle.h263_bits.specs.declared.fault.Fault.{Fault}
use Rattle.h263_bits.specs.Reading.{Bits, Takes, first_fault, ◌>>=◌}
use Rattle.h263_bits.specs.Syntax.{Spells}
use Rattle.h263_bits.proofs.SyntaxLaws.{bind_ok, ok_is, err_not_ok, sound, complete}
use Rattle.h263_types.specs.declared.format.Format.{Format}
use Rattle.h263_types.specs.declared.blocks.Mb.{Mb}
use Rattle.h263_types.specs.Sizes.{mbs_of}
use Rattle.picture_header.specs.declared.header.Header.{Header}
use Rattle.picture_header.specs.Text.{header, IsHeaderText}
use Rattle.picture_header.specs.Laws.{HeaderLaws}
use Rattle.rtp_header.specs.Faults.{rtp_in}
use Rattle.h263_payload.specs.declared.payload.Payload.{Payload}
use Rattle.h263_payload.specs.Text.{IsExtra}
use Rattle.h263_payload.specs.Faults.{payload_at, payload_bits_of}
use Rattle.slice_layer.specs.Text.{IsSliceText, slice_at}
use Rattle.slice_layer.specs.Filled.{mbs_from}
use Rattle.packet_collector.specs.declared.piece.Piece.{Piece}
use Rattle.h263_payload.specs.Headed.{IsHeaded}
use Rattle.packet_collector.specs.Packet.{PacketSlice, data_of, IsPacket, headed_at, with_header, slice_after, packet_at, packet_fault}
use Rattle.packet_collector.specs.Laws.{PartLaws}
use Rattle.packet_collector.specs.Filled.{slice_in, FillsPacket, IsExtraOf, IsPieceIn}

-- ---- the format of a header

pub header_format : (format : Format) (h : Header) (bits : List Bool) → IsHeaderText format h bits → h.format ≡ format
unfolding header Spells
header_format format h bits t = ap (λ (x : Header). x.format) t.6.6.6.6.6.6.6.5.6.0

pub extra_format : (format : Format) (plen pebit : ℕ) (extra : Option Header) (bits : List Bool)
    → IsExtra format plen pebit extra bits → IsExtraOf format extra
extra_format format plen pebit None bits t = tt
extra_format format plen pebit (Some h) bits t = header_format format h t.0 t.6

-- a header that was read has the format that was expected
pub read_format : (format : Format) (r : Result Header Fault) (old new : Bits)
    → IfOk r (λ h. Takes old new (IsHeaderText format h)) → IfOk r (λ h. h.format ≡ format)
read_format format (Ok h) old new t = header_format format h t.0 t.3
read_format format (Err fault) old new t = tt

-- ---- what was read is spelled

headed_sound : (format : Format) (extra : Option Header) (h : Header) (b c : Bits) → headed_at format extra b
    ≡ Ok (h, c) → (front : List Bool) × (b.bits ≡ front ++ c.bits) × IsHeaded format extra h front
headed_sound format None h b c e = let t = sound (header format) b c h e in (t.0, t.1.parts, t.2)
headed_sound format (Some x) h b c e =
    let same = ok_is (x, b) (h, c) e in
    ([], ap (λ (y : Header × Bits). y.1.bits) same, (ap (λ (y : Header × Bits). y.0) same, refl))

record IsWith (h : Header) (r : Result (ℕ × List Mb) Fault) (s : PacketSlice) : Type 0 where
  read : r ≡ Ok (s.first, s.mbs)
  header : s.header ≡ h

with_ok : (h : Header) (r : Result (ℕ × List Mb) Fault) (s : PacketSlice) → with_header h r ≡ Ok s → IsWith h r s
with_ok h (Ok x) s e =
    let same = ok_is (record { header = h; first = x.0; mbs = x.1 }) s e in
    record {
      read = ap (λ (t : PacketSlice). Ok (t.first, t.mbs)) same;
      header = ap (λ (t : PacketSlice). t.header) (sym same);
    }
with_ok h (Err fault) s e = absurd cc

record IsAfterText (format : Format) (p : Payload) (s : PacketSlice) (bits : List Bool) : Type 0 where
  front : List Bool
  after : List Bool
  parts : bits ≡ front ++ after
  headed : IsHeaded format p.extra s.header front
  text : IsSliceText s.header p.begins s.first s.mbs after

after_sound : PartLaws → (format : Format) (p : Payload) (s : PacketSlice) (b : Bits) → slice_after format p b ≡ Ok s
    → IsAfterText format p s b.bits
unfolding slice_after
after_sound laws format p s b e =
    let one = bind_ok (headed_at format p.extra b) (λ x. with_header x.0 (slice_at x.0 p.begins x.1)) s e in
    let h = one.0.0 in
    let c = one.0.1 in
    let front = headed_sound format p.extra h b c one.1 in
    let w = with_ok h (slice_at h p.begins c) s one.2 in
    record {
      front = front.0;
      after = c.bits;
      parts = front.1;
      headed = subst (λ (x : Header). IsHeaded format p.extra x front.0) (sym w.header) front.2;
      text = subst (λ (x : Header). IsSliceText x p.begins s.first s.mbs c.bits) (sym w.header)
          ((laws.slices h p.begins s.first s.mbs c).0 w.read);
    }

-- what is read of a packet is spelled by its bytes
pub packet_sound : PartLaws → (format : Format) (s : PacketSlice) (bytes : List ℕ) → packet_at format bytes ≡ Ok s
    → IsPacket format s bytes
unfolding packet_at
packet_sound laws format s bytes e =
    let one = bind_ok (rtp_in bytes) (λ r. payload_at format (payload_bits_of bytes r) >>= λ p. slice_after format p
    (data_of bytes r p)) s e in
    let r = one.0 in
    let two = bind_ok (payload_at format (payload_bits_of bytes r)) (λ p. slice_after format p (data_of bytes r p)) s
    one.2 in
    let p = two.0 in
    let t = after_sound laws format p s (data_of bytes r p) two.2 in
    record {
      rtp = r;
      payload = p;
      front = t.front;
      after = t.after;
      is_rtp = laws.rtp_read r bytes one.1;
      is_payload = laws.payload_read format p (payload_bits_of bytes r) two.1;
      parts = t.parts;
      headed = t.headed;
      text = t.text;
    }

-- ---- what is spelled is read

record IsHeadedAgain (format : Format) (extra : Option Header) (h : Header) (at : ℕ) (front rest : List Bool) : Type
    0 where
  left : Bits
  read : headed_at format extra (record { at = at; bits = front ++ rest }) ≡ Ok (h, left)
  bits : left.bits ≡ rest

headed_again : HeaderLaws → (format : Format) (extra : Option Header) (h : Header) (at : ℕ) (front rest : List Bool)
    → IsHeaded format extra h front → IsHeadedAgain format extra h at front rest
headed_again laws format None h at front rest t =
    record {
      left = record { at = at + length front; bits = rest };
      read = complete (header format) h front rest at (laws.productive format) t;
      bits = refl;
    }
headed_again laws format (Some x) h at front rest t = record {
  left = record { at = at; bits = front ++ rest };
  read = ap (λ (y : Header). Ok (y, record { at = at; bits = front ++ rest })) t.0;
  bits = ap (λ (l : List Bool). l ++ rest) t.1;
}

pub packet_complete : PartLaws → (format : Format) (s : PacketSlice) (bytes : List ℕ) → IsPacket format s bytes
    → packet_at format bytes ≡ Ok s
unfolding packet_at slice_after
packet_complete laws format s bytes t =
    let r = t.rtp in
    let p = t.payload in
    let one : rtp_in bytes ≡ Ok r = laws.rtp_written r bytes t.is_rtp in
    let two : payload_at format (payload_bits_of bytes r)
    ≡ Ok p = laws.payload_written format p (payload_bits_of bytes r) t.is_payload in
    let again = headed_again laws.headers format p.extra s.header p.from t.front t.after t.headed in
    let three : headed_at format p.extra (data_of bytes r p) ≡ Ok (s.header, again.left) =
    ap (λ (bits : List Bool). headed_at format p.extra (record { at = p.from; bits = bits })) t.parts ∙ again.read in
    let four : slice_at s.header p.begins again.left ≡ Ok (s.first, s.mbs) =
    (laws.slices s.header p.begins s.first s.mbs again.left).1
    (subst (λ (bits : List Bool). IsSliceText s.header p.begins s.first s.mbs bits) (sym again.bits) t.text) in
    rw (one, two, three, four) refl

-- ---- what a call leaves

pub fills_packet : PartLaws → (r : Result Piece Fault) (out : List Mb) (format : Format) (bytes : List ℕ)
    → FillsPacket r out (packet_at format bytes) → IfOk r (λ piece. IsPacket format (slice_in piece out) bytes)
fills_packet laws (Ok piece) out format bytes g = packet_sound laws format (slice_in piece out) bytes g
fills_packet laws (Err fault) out format bytes g = tt

pub packet_fills : PartLaws → (r : Result Piece Fault) (out : List Mb) (format : Format) (bytes : List ℕ)
    → IfOk r (IsPieceIn format out) → length out ≡ mbs_of format → FillsPacket r out (packet_at format bytes)
    → (s : PacketSlice) → IsPacket format s bytes
    → IsOkAnd r (λ piece. (piece.head.count ≡ length s.mbs) × (slice_in piece out ≡ s))
packet_fills laws (Ok piece) out format bytes range size g s is =
    let same = ok_is (slice_in piece out) s (sym g ∙ packet_complete laws format s bytes is) in
    let first = piece.head.first in
    let count = piece.head.count in
    let sized : length out ≡ mbs_of piece.header.format = size ∙ ap mbs_of (sym range.of-format) in
    let long : length (mbs_from first count out)
    ≡ count = length-take-le count (drop first out) (omega (
      arith,
      sized,
      length-drop first out,
      range.slice.head.within,
    )) in
    (sym long ∙ ap (λ (x : PacketSlice). length x.mbs) same, same)
packet_fills laws (Err fault) out format bytes range size g s is = absurd (err_not_ok fault s (sym g
    ∙ packet_complete laws format s bytes is))

pub fault_is : (r : Result Piece Fault) (out : List Mb) (read : Result PacketSlice Fault) → FillsPacket r out read
    → first_fault r ≡ first_fault read
fault_is (Ok piece) out read g = ap first_fault (sym g)
fault_is (Err fault) out read g = ap first_fault (sym g)

-- ---- laws

pub no_fault : PartLaws → (format : Format) (bytes : List ℕ) → packet_fault format bytes ≡ None
    → (s : PacketSlice) × IsPacket format s bytes
no_fault laws format bytes e = at (packet_at format bytes) refl e
  where
    at : (r : Result PacketSlice Fault) → packet_at format bytes ≡ r → first_fault r ≡ None
        → (s : PacketSlice) × IsPacket format s bytes
    at (Ok s) is e = (s, packet_sound laws format s bytes is)
    at (Err fault) is e = absurd cc

pub one_packet : PartLaws → (format : Format) (s other : PacketSlice) (bytes : List ℕ) → IsPacket format s bytes
    → IsPacket format other bytes → s ≡ other
one_packet laws format s other bytes p q = ok_is s other (sym (packet_complete laws format s bytes p)
    ∙ packet_complete laws format other bytes q)

-- ---- where a slice lies

pub record IsInside (format : Format) (s : PacketSlice) : Type 0 where
  pub format_is : s.header.format ≡ format
  pub some : 0 < length s.mbs
  pub within : s.first + length s.mbs ≤ mbs_of format

headed_format : (format : Format) (plen pebit : ℕ) (extra : Option Header) (middle : List Bool) (h : Header)
    (front : List Bool) → IsExtra format plen pebit extra middle → IsHeaded format extra h front → h.format ≡ format
headed_format format plen pebit None middle h front t headed = header_format format h front headed
headed_format format plen pebit (Some x) middle h front t headed = ap (λ (y : Header). y.format) (sym headed.0)
    ∙ extra_format format plen pebit (Some x) middle t

pub packet_inside : (format : Format) (s : PacketSlice) (bytes : List ℕ) → IsPacket format s bytes → IsInside format s
packet_inside format s bytes p =
    let payload = p.is_payload in
    let same = headed_format format payload.opening.plen payload.opening.pebit p.payload.extra payload.middle s.header
    p.front payload.extra p.headed in
    let body = p.text.body in
    record { format_is = same; some = body.some; within = omega (arith, body.some, body.within, ap mbs_of same) }
