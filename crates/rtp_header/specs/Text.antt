-- An RTP packet (RFC 3550, 5.1, 5.3.1): the fixed header, the contributing sources, an extension,
-- the payload and its padding.
use Rattle.std.specs.Prelude.{◌≡◌, ℕ, zero, suc, ◌+◌, ◌*◌, ◌≤◌, ◌==◌, List, [], ◌∷◌, ◌++◌, length, drop}
use Rattle.h263_bits.specs.Bits.{bits_of}
use Rattle.h263_bits.specs.Reading.{Bits}
use Rattle.h263_bits.specs.Syntax.{Syntax, any, done, field, part, either, Spells}
use Rattle.rtp_header.specs.declared.rtp.Rtp.{Rtp}

-- the fields of the fixed header: V, P, X, CC, M, PT, sequence number, timestamp and SSRC
pub record Head : Type 0 where
  pub version : ℕ
  pub padding : ℕ
  pub extension : ℕ
  pub sources : ℕ
  pub marker : ℕ
  pub type : ℕ
  pub sequence : ℕ
  pub timestamp : ℕ
  pub source : ℕ

-- the fixed header (5.1)
unfoldable pub head : Syntax Head
head =
    field 2 any λ version.
    field 1 any λ padding.
    field 1 any λ extension.
    field 4 any λ sources.
    field 1 any λ marker.
    field 7 any λ type.
    field 16 any λ sequence.
    field 32 any λ timestamp.
    field 32 any λ source.
    done (record {
      version = version;
      padding = padding;
      extension = extension;
      sources = sources;
      marker = marker;
      type = type;
      sequence = sequence;
      timestamp = timestamp;
      source = source;
    })

-- the extension (5.3.1): 16 bits of its profile, the number of its words of four bytes, and these
unfoldable pub extension : Syntax (Unit {0})
extension =
    field 16 any λ profile.
    field 16 any λ words.
    field (8 * (4 * words)) any λ contents.
    done tt

-- what stands between the fixed header and the payload: the sources (CSRC), four bytes each, and
-- where X is set the extension
unfoldable pub after_fixed : Head → Syntax (Unit {0})
after_fixed h =
    field (8 * (4 * h.sources)) any λ sources.
    either (h.extension == 0) (done tt) extension

-- all that stands in front of the payload
unfoldable pub rtp_front : Syntax Head
rtp_front =
    part head any λ h.
    part (after_fixed h) any λ end.
    done h

-- the bits of bytes from a byte on
abbrev pub from_byte : ℕ → List ℕ → Bits
from_byte k bytes = record { at = 8 * k; bits = bits_of (drop k bytes) }

-- where P is set there is padding, and its last byte is the number of its bytes, itself included
abbrev pub IsPadding : ℕ → List ℕ → Type 0
IsPadding zero padding = padding ≡ []
IsPadding (suc p) padding = (others : List ℕ) × (padding ≡ others ++ (length others + 1) ∷ [])

-- The bytes are a packet of this stream: version 2, payload type 96, the SSRC with the letters H263.
pub record IsRtp (r : Rtp) (bytes : List ℕ) : Type 0 where
  pub fields : Head
  pub front : List ℕ
  pub payload : List ℕ
  pub padding : List ℕ
  pub parts : bytes ≡ front ++ (payload ++ padding)
  pub short : length bytes ≤ 65535
  pub text : Spells rtp_front fields (bits_of front)
  pub version : fields.version ≡ 2
  pub type : fields.type ≡ 96
  pub source : fields.source ≡ 1211250227
  pub padded : IsPadding fields.padding padding
  pub value : r ≡ record {
    marker = fields.marker == 1;
    sequence = fields.sequence;
    timestamp = fields.timestamp;
    from = length front;
    to = length front + length payload;
  }
