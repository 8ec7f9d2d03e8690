-- What is written of a packet is read as its header and its slice.
use Rattle.std.proofs.Common.{◌≡◌, ℕ, ◌+◌, ◌-◌, ◌*◌, ◌%◌, ◌<◌, ◌≤◌, Bool, true, false, Some, None, List, [], ◌∷◌, ◌++◌, length, take, drop, Result, Ok, refl, sym, ap, ◌∙◌, append_assoc, arith}
use Rattle.std.proofs.lemmas.List.{length-append, length-drop, take-append-drop, take_at, drop_at, take_all}
use Rattle.h263_types.specs.declared.blocks.Mb.{Mb}
use Rattle.h263_types.specs.declared.format.Format.{Format}
use Rattle.h263_types.specs.Sizes.{mbs_of}
use Rattle.h263_bits.specs.declared.fault.Fault.{Fault}
use Rattle.h263_bits.specs.Bits.{bits_of, spelled, fields}
use Rattle.h263_bits.specs.Reading.{Bits, bits_between}
use Rattle.h263_bits.specs.Written.{to_byte}
use Rattle.h263_bits.proofs.SyntaxLaws.{length-bits_of, bits_of-take}
use Rattle.picture_header.specs.declared.header.Header.{Header}
use Rattle.picture_header.specs.Ranges.{IsHeader}
use Rattle.picture_header.specs.Written.{written_header}
use Rattle.picture_header.specs.Laws.{HeaderLaws}
use Rattle.rtp_header.specs.declared.rtp.Rtp.{Rtp}
use Rattle.rtp_header.specs.Faults.{rtp_in}
use Rattle.rtp_header.specs.Written.{rtp_fields, written_rtp}
use Rattle.h263_payload.specs.declared.payload.Payload.{Payload}
use Rattle.h263_payload.specs.Text.{IsStartCodeRest}
use Rattle.h263_payload.specs.Faults.{payload_at}
use Rattle.h263_payload.specs.Written.{written_payload}
use Rattle.slice_layer.specs.Around.{around}
use Rattle.slice_layer.specs.Written.{slice_head_text, opening_text, mbs_text, slice_text, padded, AreWritable}
use Rattle.slice_layer.specs.Laws.{AreSlicesSpelt}
use Rattle.packet_cutter.specs.Cut.{begins_at, extra_of, front_bytes}
use Rattle.packet_cutter.specs.Packets.{timestamp_of, packet_text}
use Rattle.h263_payload.specs.Headed.{IsHeaded}
use Rattle.packet_cutter.specs.Again.{rtp_of, IsReadAs}
use Rattle.packet_cutter.proofs.Fronts.{front_whole}
use Rattle.packet_cutter.proofs.Counted.{ArePayloadsLong, length-rtp}

-- what the laws of the layers below say of what is written of an RTP header, a payload header, a picture
-- header and a slice
pub record AreReadAgain : Type 0 where
  pub headers : HeaderLaws
  pub rtp : (bytes payload : List ℕ) (marker : Bool) (sequence timestamp : ℕ) → sequence < 65536
      → timestamp < 4294967296
      → bits_of bytes ≡ fields (rtp_fields marker sequence timestamp) → length payload ≤ 65523
      → rtp_in (bytes ++ payload) ≡ Ok (written_rtp marker sequence timestamp (length payload))
  pub picture : (format : Format) (at : ℕ) (rest : List Bool)
      → payload_at format (record { at = at; bits = written_payload None ++ true ∷ false ∷ rest })
      ≡ Ok (record { extra = None; begins = true; from = at + length (written_payload None) })
  pub slice : (h : Header) (at : ℕ) (rest : List Bool) → IsHeader h
      → payload_at h.format (record { at = at; bits = written_payload (Some h) ++ true ∷ true ∷ rest })
      ≡ Ok (record { extra = Some h; begins = false; from = at + length (written_payload (Some h)) })
  pub many : ArePayloadsLong
  pub slices : AreSlicesSpelt

-- ---- windows of bytes whose bits are known

-- the bits after a text
after_text : (bytes : List ℕ) (front rest : List Bool) (at : ℕ) → bits_of bytes ≡ front ++ rest → length front ≡ at
    → bits_between bytes at (8 * length bytes) ≡ record { at = at; bits = rest }
after_text bytes front rest at e len =
    let room : length rest ≤ 8 * length bytes - at = omega (
      arith,
      length-bits_of bytes,
      ap length e,
      length-append front rest,
    ) in
    let there : drop at (bits_of bytes) ≡ rest = ap (drop at) e ∙ drop_at front rest at len in
    ap (λ (t : List Bool). record { at = at; bits = t }) (ap (take (8 * length bytes - at)) there
    ∙ take_all (8 * length bytes - at) rest room)

abbrev ok_rtp : Rtp → Result Rtp Fault
ok_rtp r = Ok r

abbrev ok_payload : Payload → Result Payload Fault
ok_payload p = Ok p

-- ---- RTP's header

rtp_again : AreReadAgain → (number sequence : ℕ) (marker : Bool) (bytes : List ℕ) (rest : List Bool)
    → bits_of bytes ≡ fields (rtp_fields marker (sequence % 65536) (timestamp_of number)) ++ rest → length bytes ≤ 65535
    → rtp_in bytes ≡ Ok (rtp_of number sequence marker (length bytes))
rtp_again below number sequence marker bytes rest e short =
    let text = fields (rtp_fields marker (sequence % 65536) (timestamp_of number)) in
    let len : length text ≡ 96 = length-rtp marker (sequence % 65536) (timestamp_of number) in
    let long : 12 ≤ length bytes = omega (arith, length-bits_of bytes, ap length e, length-append text rest, len) in
    let front : bits_of (take 12 bytes) ≡ text = bits_of-take 12 bytes long ∙ ap (take 96) e
    ∙ take_at text rest 96 len in
    let few : length (drop 12 bytes) ≤ 65523 = omega (arith, length-drop 12 bytes) in
    let read = below.rtp (take 12 bytes) (drop 12 bytes) marker (sequence % 65536) (timestamp_of number) (omega arith)
    (omega arith) front few in
    let end : 12 + length (drop 12 bytes) ≡ length bytes = omega (arith, length-drop 12 bytes) in
    ap rtp_in (sym (take-append-drop 12 bytes)) ∙ read ∙ ap (λ (n : ℕ). ok_rtp (rtp_of number sequence marker n)) end

-- ---- the payload's header

started : (h : Header) (begins : Bool) (first : ℕ) (run : List Mb)
    → IsStartCodeRest begins (padded (slice_text h begins first run))
unfolding spelled
started h true first run = (drop 2 (padded (slice_text h true first run)), refl)
started h false first run = (drop 2 (padded (slice_text h false first run)), refl)

payload_again : AreReadAgain → (h : Header) (begins : Bool) (at : ℕ) (coded : List Bool) → IsHeader h
    → IsStartCodeRest begins coded
    → payload_at h.format (record { at = at; bits = written_payload (extra_of h begins) ++ coded })
    ≡ Ok (record {
      extra = extra_of h begins;
      begins = begins;
      from = at + length (written_payload (extra_of h begins));
    })
payload_again below h true at coded is begun =
    ap (λ (t : List Bool). payload_at h.format (record { at = at; bits = written_payload None ++ t })) begun.1
    ∙ below.picture h.format at begun.0
payload_again below h false at coded is begun =
    ap (λ (t : List Bool). payload_at h.format (record { at = at; bits = written_payload (Some h) ++ t })) begun.1
    ∙ below.slice h at begun.0 is

-- ---- the picture header and the slice

abbrev header_part : Header → Bool → List Bool
header_part h true = written_header h
header_part h false = []

headed : HeaderLaws → (h : Header) (begins : Bool) → IsHeader h
    → IsHeaded h.format (extra_of h begins) h (header_part h begins)
headed laws h true is = laws.spelt h is
headed laws h false is = (refl, refl)

divided : (h : Header) (begins : Bool) (first : ℕ) (texts zeros : List Bool) → (opening_text h begins first ++ texts)
    ++ zeros ≡ header_part h begins ++ (slice_head_text h begins first ++ (texts ++ zeros))
divided h true first texts zeros = regroup (written_header h) (slice_head_text h true first) texts zeros
  where
    regroup : (a b c d : List Bool) → ((a ++ b) ++ c) ++ d ≡ a ++ (b ++ (c ++ d))
    regroup a b c d = simp append_assoc
divided h false first texts zeros = append_assoc (slice_head_text h false first) texts zeros

pub read_as : AreReadAgain → (number sequence : ℕ) (marker : Bool) (h : Header) (first : ℕ) (run : List Mb)
    (bytes : List ℕ) → IsHeader h → 0 < length run → first + length run ≤ mbs_of h.format
    → AreWritable (around h first) h.quant [] run → bits_of bytes ≡ packet_text number sequence marker h first run
    → length bytes ≤ 65535 → IsReadAs number sequence marker h first run bytes
read_as below number sequence marker h first run bytes is some within each e short =
    let begins = begins_at first in
    let rtp = fields (rtp_fields marker (sequence % 65536) (timestamp_of number)) in
    let payload = written_payload (extra_of h begins) in
    let coded = padded (slice_text h begins first run) in
    let texts = mbs_text (around h first) h.quant [] run in
    let zeros = spelled (to_byte (length (slice_text h begins first run))) 0 in
    let len : length rtp ≡ 96 = length-rtp marker (sequence % 65536) (timestamp_of number) in
    let from : 96 + length payload ≡ 8 * front_bytes h first = omega (
      arith,
      below.many (extra_of h begins),
      front_whole h first,
    ) in
    let there = after_text bytes rtp (payload ++ coded) 96 e len in
    let data_there = after_text bytes (rtp ++ payload) coded (8 * front_bytes h first) (e
    ∙ sym (append_assoc rtp payload coded)) (omega (arith, length-append rtp payload, len, from)) in
    record {
      front = header_part h begins;
      after = slice_head_text h begins first ++ (texts ++ zeros);
      rtp = rtp_again below number sequence marker bytes (payload ++ coded) e short;
      payload = ap (payload_at h.format) there ∙ payload_again below h begins 96 coded is (started h begins first run)
          ∙ ap (λ (n : ℕ). ok_payload (record { extra = extra_of h begins; begins = begins; from = n })) from;
      parts = ap (λ (b : Bits). b.bits) data_there ∙ divided h begins first texts zeros;
      headed = headed below.headers h begins is;
      text = below.slices.text h begins first run zeros is (record {
        within = omega (arith, some, within);
        at_zero = refl;
      }) some within each (below.slices.padding (length (slice_text h begins first run)));
    }
