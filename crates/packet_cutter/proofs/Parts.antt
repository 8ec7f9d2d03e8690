-- A packet without its macroblocks: its three headers, and the zero bits at its end.
use Rattle.std.proofs.Common.{◌≡◌, ℕ, ◌+◌, ◌*◌, ◌/◌, ◌%◌, ◌≤◌, Bool, true, false, List, [], ◌++◌, length, Option, Some, None, ap, ◌∙◌, append_assoc, arith}
use Rattle.std.proofs.lemmas.List.{length-append}
use Rattle.h263_types.specs.declared.format.Format.{Format}
use Rattle.h263_types.specs.declared.format.Format.TheVariants.{SubQcif, Qcif, Cif}
use Rattle.h263_types.specs.declared.blocks.Mb.{Mb}
use Rattle.h263_bits.specs.Bits.{bits_of, spelled, fields}
use Rattle.h263_bits.specs.Written.{to_byte}
use Rattle.picture_header.specs.declared.header.Header.{Header}
use Rattle.picture_header.specs.Ranges.{IsHeader}
use Rattle.picture_header.specs.Written.{reference_bits}
use Rattle.rtp_header.specs.Written.{rtp_fields}
use Rattle.h263_payload.specs.Written.{payload_bits, written_payload}
use Rattle.slice_layer.specs.Around.{around}
use Rattle.slice_layer.specs.Head.{address_bits}
use Rattle.slice_layer.specs.Laws.{AreSlicesShort}
use Rattle.slice_layer.specs.Written.{mbs_text, opening_text, slice_text}
use Rattle.packet_cutter.specs.Cut.{begins_at, extra_of, front_bytes, packet_bytes}
use Rattle.packet_cutter.specs.Packets.{packet_of, packet_text, timestamp_of}
use Rattle.packet_cutter.specs.Parts.{HasShortParts}
use Rattle.packet_cutter.proofs.Counted.{ArePayloadsLong, length-packet}
use Rattle.packet_cutter.proofs.Fronts.{AllShort}
use Rattle.packet_cutter.proofs.Sent.{packet_bits}

address_few : (f : Format) → address_bits f ≤ 9
address_few SubQcif = omega arith
address_few Qcif = omega arith
address_few Cif = omega arith

reference_few : (trp : Option ℕ) → reference_bits trp ≤ 10
reference_few None = omega arith
reference_few (Some n) = omega arith

-- with seven zero bits at the end
headers_short : AreSlicesShort → AllShort → (h : Header) (first : ℕ) → IsHeader h
    → 8 * front_bytes h first + length (opening_text h (begins_at first) first) + 7 ≤ 408
headers_short slices short h first is = at (begins_at first)
  where
    at : (begins : Bool) → 8 * (12 + payload_bits (extra_of h begins) / 8) + length (opening_text h begins first) + 7 ≤
        408
    at true = omega (arith, slices.opening h true first is)
    at false = let s = short h is in omega (
      arith,
      s.before,
      slices.later h first,
      address_few h.format,
      reference_few h.trp,
    )

packet_short : AreSlicesShort → AllShort → (h : Header) (first : ℕ) (run : List Mb) → IsHeader h
    → 8 * packet_bytes h first run ≤ 408 + length (mbs_text (around h first) h.quant [] run)
packet_short slices short h first run is =
    let opening = opening_text h (begins_at first) first in
    let mbs = mbs_text (around h first) h.quant [] run in
    omega (arith, headers_short slices short h first is, length-append opening mbs)

regrouped : (rtp payload opening mbs zeros : List Bool) → rtp ++ (payload ++ ((opening ++ mbs) ++ zeros))
    ≡ (rtp ++ (payload ++ opening)) ++ (mbs ++ zeros)
regrouped rtp payload opening mbs zeros = simp append_assoc

few_others : (before mbs after bits : List Bool) (size : ℕ) → bits ≡ before ++ (mbs ++ after) → length bits ≡ 8 * size
    → 8 * size ≤ 408 + length mbs → length before + length after ≤ 8 * 51
few_others before mbs after bits size parts long few = omega (
  arith,
  long,
  few,
  ap length parts,
  length-append before (mbs ++ after),
  length-append mbs after,
)

pub other_parts : ArePayloadsLong → AreSlicesShort → AllShort
    → (number sequence : ℕ) (marker : Bool) (h : Header) (first : ℕ) (run : List Mb) → IsHeader h →
    HasShortParts (mbs_text (around h first) h.quant [] run) (bits_of (packet_of number sequence marker h first run))
other_parts long slices short number sequence marker h first run is =
    let rtp = fields (rtp_fields marker (sequence % 65536) (timestamp_of number)) in
    let payload = written_payload (extra_of h (begins_at first)) in
    let opening = opening_text h (begins_at first) first in
    let mbs = mbs_text (around h first) h.quant [] run in
    let zeros = spelled (to_byte (length (slice_text h (begins_at first) first run))) 0 in
    let text = packet_text number sequence marker h first run in
    let parts : text ≡ (rtp ++ (payload ++ opening)) ++ (mbs ++ zeros) = regrouped rtp payload opening mbs zeros in
    record {
      before = rtp ++ (payload ++ opening);
      after = zeros;
      parts = packet_bits long number sequence marker h first run ∙ parts;
      short = few_others (rtp ++ (payload ++ opening)) mbs zeros text (packet_bytes h first run) parts
          (length-packet long number sequence marker h first run) (packet_short slices short h first run is);
    }
