-- How many packets there are, and how many bytes each has.
use Rattle.std.proofs.Common.{◌≡◌, ℕ, ◌+◌, ◌*◌, ◌%◌, ◌≤◌, Bool, List, [], ◌∷◌, ◌++◌, length, Option, sym, ap, subst, arith}
use Rattle.std.specs.Prelude.{All}
use Rattle.std.proofs.lemmas.List.{length-append}
use Rattle.std.proofs.lemmas.List.Elements.{All-nil, All-cons}
use Rattle.h263_types.specs.declared.blocks.Mb.{Mb}
use Rattle.h263_bits.specs.Bits.{spelled, fields}
use Rattle.h263_bits.specs.Written.{to_byte}
use Rattle.h263_bits.proofs.SyntaxLaws.{length-spelled, length-fields}
use Rattle.picture_header.specs.declared.header.Header.{Header}
use Rattle.rtp_header.specs.Written.{rtp_fields}
use Rattle.h263_payload.specs.Written.{written_payload, payload_bits}
use Rattle.slice_layer.specs.Written.{slice_text, padded, bytes_filled_by}
use Rattle.packet_cutter.specs.Cut.{begins_at, extra_of, packet_bytes, IsCut}
use Rattle.packet_cutter.specs.Packets.{timestamp_of, packet_text, packet_of, is_last, ArePackets}
use Rattle.packet_cutter.proofs.Bytes.{length-bytes_in}
use Rattle.packet_cutter.proofs.Fronts.{front_whole}

pub length-padded : (text : List Bool) → length (padded text) ≡ 8 * bytes_filled_by text
length-padded text =
    let whole : 8 * bytes_filled_by text ≡ length text + to_byte (length text) = omega arith in
    omega (
      arith,
      length-append text (spelled (to_byte (length text)) 0),
      length-spelled (to_byte (length text)) 0,
      whole,
    )

pub length-rtp : (marker : Bool) (sequence timestamp : ℕ) → length (fields (rtp_fields marker sequence timestamp)) ≡ 96
length-rtp marker sequence timestamp = length-fields (rtp_fields marker sequence timestamp)

-- what the payload header's laws say of its length
abbrev pub ArePayloadsLong : Type 0
ArePayloadsLong = (extra : Option Header) → length (written_payload extra) ≡ payload_bits extra

pub length-packet : ArePayloadsLong → (number sequence : ℕ) (marker : Bool) (h : Header) (first : ℕ) (run : List Mb)
    → length (packet_text number sequence marker h first run) ≡ 8 * packet_bytes h first run
length-packet many number sequence marker h first run =
    let rtp = fields (rtp_fields marker (sequence % 65536) (timestamp_of number)) in
    let payload = written_payload (extra_of h (begins_at first)) in
    let text = padded (slice_text h (begins_at first) first run) in
    omega (
      arith,
      length-append rtp (payload ++ text),
      length-append payload text,
      length-rtp marker (sequence % 65536) (timestamp_of number),
      many (extra_of h (begins_at first)),
      length-padded (slice_text h (begins_at first) first run),
      front_whole h first,
    )

pub packet_size : (number sequence : ℕ) (marker : Bool) (h : Header) (first : ℕ) (run : List Mb)
    → length (packet_of number sequence marker h first run) ≡ packet_bytes h first run
unfolding packet_of
packet_size number sequence marker h first run = length-bytes_in (packet_bytes h first run)
    (packet_text number sequence marker h first run)

pub count : (number sequence : ℕ) (h : Header) (first : ℕ) (runs : List (List Mb)) (packets : List (List ℕ))
    → ArePackets number sequence h first runs packets → length packets ≡ length runs
unfolding ArePackets
count number sequence h first [] packets a = ap length a
count number sequence h first (run ∷ runs) packets a = omega (
  arith,
  ap length a.2,
  count number (sequence + 1) h (first + length run) runs a.1 a.4,
)

abbrev pub IsWithin : ℕ → List ℕ → Type 0
IsWithin limit packet = length packet ≤ limit

pub within : (number sequence : ℕ) (h : Header) (limit first : ℕ) (mbs : List Mb) (runs : List (List Mb))
    (packets : List (List ℕ)) → IsCut h limit first mbs runs → ArePackets number sequence h first runs packets
    → All (IsWithin limit) packets
unfolding IsCut ArePackets
within number sequence h limit first mbs [] packets c a = subst (All (IsWithin limit)) (sym a)
    (All-nil (IsWithin limit))
within number sequence h limit first mbs (run ∷ runs) packets c a =
    let fits : length a.0 ≤ limit = omega (
      arith,
      c.2.fits,
      ap length a.3,
      packet_size number sequence (is_last runs) h first run,
    ) in
    subst (All (IsWithin limit)) (sym a.2) (All-cons (IsWithin limit) a.0 a.1 fits (within number (sequence + 1) h limit
    (first + length run) c.0 runs a.1 c.3 a.4))
