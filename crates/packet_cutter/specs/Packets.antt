-- The packets of a picture, one a slice (RFC 3550, 5.1, and RFC 4629).
use Rattle.std.specs.Prelude.{◌≡◌, ℕ, zero, suc, ◌+◌, ◌*◌, ◌%◌, ◌^◌, ◌==◌, ◌≤◌, Bool, true, false, List, [], ◌∷◌, ◌++◌, length, take, drop}
use Rattle.call_model.specs.Coding.{Slice}
use Rattle.h263_types.specs.declared.blocks.Mb.{Mb}
use Rattle.picture_header.specs.declared.header.Header.{Header}
use Rattle.h263_bits.specs.Bits.{number, fields}
use Rattle.rtp_header.specs.Written.{rtp_fields}
use Rattle.h263_payload.specs.Written.{written_payload}
use Rattle.slice_layer.specs.Written.{slice_text, padded}
use Rattle.packet_cutter.specs.Cut.{begins_at, extra_of, packet_bytes, IsLongest, IsCut}
use Rattle.h263_bits.specs.Bytes.{bytes_filled}

-- the time of picture n on the clock of 90 kHz, with 30000/1001 pictures a second
abbrev pub timestamp_of : ℕ → ℕ
timestamp_of number = 3003 * number % 2 ^ 32

-- a packet of picture `number`, the bits of its bytes; the marker tells the picture's last one
abbrev pub packet_text : ℕ → ℕ → Bool → Header → ℕ → List Mb → List Bool
packet_text number sequence marker h first run =
    fields (rtp_fields marker (sequence % 65536) (timestamp_of number))
    ++ (written_payload (extra_of h (begins_at first)) ++ padded (slice_text h (begins_at first) first run))

-- its bytes
unfoldable pub packet_of : ℕ → ℕ → Bool → Header → ℕ → List Mb → List ℕ
packet_of number sequence marker h first run =
    bytes_filled (packet_bytes h first run) (packet_text number sequence marker h first run)

abbrev pub is_last : {Run : Type 0} → List Run → Bool
is_last [] = true
is_last (run ∷ runs) = false

-- the packets of slices, one after the other, with sequence numbers from `sequence` on
unfoldable pub packets_of : ℕ → ℕ → Header → List (Slice Mb) → List (List ℕ)
packets_of number sequence h [] = []
packets_of number sequence h (slice ∷ slices) =
    packet_of number sequence (is_last slices) h slice.first slice.mbs ∷ packets_of number (sequence + 1) h slices

-- the same of slices by their macroblocks alone
unfoldable pub ArePackets : ℕ → ℕ → Header → ℕ → List (List Mb) → List (List ℕ) → Type 0
ArePackets number sequence h first [] packets = packets ≡ []
ArePackets number sequence h first (run ∷ runs) packets =
    (packet : List ℕ) × (others : List (List ℕ)) × (packets ≡ packet ∷ others)
    × (packet ≡ packet_of number sequence (is_last runs) h first run)
    × ArePackets number (sequence + 1) h (first + length run) runs others

-- the packets of a picture, with sequence numbers from `sequence` on
pub record ArePacketsOf (number sequence : ℕ)
    (h : Header) (limit : ℕ) (mbs : List Mb) (packets : List (List ℕ)) : Type 0 where
  pub runs : List (List Mb)
  pub cut : IsCut h limit 0 mbs runs
  pub each : ArePackets number sequence h 0 runs packets

-- bytes begin with the packet of the first `count` of the macroblocks that are left, in the longest slice
pub record BeginsWith (number sequence : ℕ)
    (h : Header) (limit first : ℕ) (mbs : List Mb) (count size : ℕ) (bytes : List ℕ) : Type 0 where
  pub few : count ≤ length mbs
  pub longest : IsLongest h limit first (take count mbs) (drop count mbs)
  pub size_is : size ≡ packet_bytes h first (take count mbs)
  pub packet : take size bytes ≡ packet_of number sequence (count == length mbs) h first (take count mbs)
