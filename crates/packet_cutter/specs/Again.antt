-- What a packet is read as that was written.
use Rattle.std.specs.Prelude.{◌≡◌, ℕ, ◌*◌, ◌%◌, Bool, List, ◌++◌, length, Ok}
use Rattle.h263_types.specs.declared.blocks.Mb.{Mb}
use Rattle.h263_bits.specs.Reading.{bits_between}
use Rattle.picture_header.specs.declared.header.Header.{Header}
use Rattle.rtp_header.specs.declared.rtp.Rtp.{Rtp}
use Rattle.rtp_header.specs.Faults.{rtp_in}
use Rattle.h263_payload.specs.declared.payload.Payload.{Payload}
use Rattle.h263_payload.specs.Headed.{IsHeaded}
use Rattle.h263_payload.specs.Faults.{payload_at, payload_bits_of}
use Rattle.slice_layer.specs.Text.{IsSliceText}
use Rattle.packet_cutter.specs.Cut.{begins_at, extra_of, front_bytes}
use Rattle.packet_cutter.specs.Packets.{timestamp_of}

-- the RTP header of a packet of picture `number` that has this many bytes
abbrev pub rtp_of : ℕ → ℕ → Bool → ℕ → Rtp
rtp_of number sequence marker bytes = record {
  marker = marker;
  sequence = sequence % 65536;
  timestamp = timestamp_of number;
  from = 12;
  to = bytes;
}

-- the payload header of a packet whose slice begins with macroblock `first`
abbrev pub payload_of : Header → ℕ → Payload
payload_of h first = record {
  extra = extra_of h (begins_at first);
  begins = begins_at first;
  from = 8 * front_bytes h first;
}

-- The bytes are read as a packet of picture `number` with this header, and with a slice of these
-- macroblocks from number `first` on: RTP's header, the payload's header, and in the data, which
-- the picture header begins where there is no extra one, the slice's text.
pub record IsReadAs (number sequence : ℕ)
    (marker : Bool) (h : Header) (first : ℕ) (run : List Mb) (bytes : List ℕ) : Type 0 where
  pub front : List Bool
  pub after : List Bool
  pub rtp : rtp_in bytes ≡ Ok (rtp_of number sequence marker (length bytes))
  pub payload : payload_at h.format
      (payload_bits_of bytes (rtp_of number sequence marker (length bytes)))
      ≡ Ok (payload_of h first)
  pub parts : (bits_between bytes (8 * front_bytes h first) (8 * length bytes)).bits ≡ front ++ after
  pub headed : IsHeaded h.format (extra_of h (begins_at first)) h front
  pub text : IsSliceText h (begins_at first) first run after
