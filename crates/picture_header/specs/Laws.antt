-- What a syntax that has a header in it needs to know of it.
use Rattle.std.specs.Prelude.{◌≡◌, ◌+◌, ◌/◌, ◌<◌, ◌≤◌, length}
use Rattle.h263_bits.specs.Syntax.{Spells, IsProductive}
use Rattle.h263_types.specs.declared.format.Format.{Format}
use Rattle.picture_header.specs.declared.header.Header.{Header}
use Rattle.picture_header.specs.Ranges.{IsHeader}
use Rattle.picture_header.specs.Text.{header}
use Rattle.picture_header.specs.Written.{written_header, written_bits}

pub record HeaderLaws : Type 0 where
  pub productive : (format : Format) → IsProductive (header format)
  -- what is written is spelled
  pub spelt : (h : Header) → IsHeader h → Spells (header h.format) h (written_header h)
  pub length : (h : Header) → length (written_header h) ≡ written_bits h
  pub short : (h : Header) → IsHeader h → written_bits h ≤ 251

-- How much room a header takes at most.
pub record IsShort (h : Header) : Type 0 where
  pub bits : written_bits h ≤ 251
  -- with the 11 bits of a slice that begins a picture: two markers and the number of its macroblock
  pub beginning : written_bits h + 11 ≤ 262
  -- in bytes, after the RTP header and the payload header before the data of a later slice
  pub before : 12 + 2 + (written_bits h + 7) / 8 ≤ 46
  -- so that the least limit of a packet leaves room for one macroblock
  pub room : 1150 + (12 + 2 + (written_bits h + 7) / 8) < 1200
