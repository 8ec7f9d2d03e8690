-- What the reader of a packet leaves in the picture's macroblocks.
use Rattle.std.specs.Prelude.{◌≡◌, List, Option, Some, None, Result, Ok, Err}
use Rattle.h263_bits.specs.declared.fault.Fault.{Fault}
use Rattle.h263_types.specs.declared.format.Format.{Format}
use Rattle.h263_types.specs.declared.blocks.Mb.{Mb}
use Rattle.picture_header.specs.declared.header.Header.{Header}
use Rattle.picture_header.specs.Ranges.{IsHeader}
use Rattle.slice_layer.specs.Filled.{IsSliceIn, mbs_from}
use Rattle.packet_collector.specs.declared.piece.Piece.{Piece}
use Rattle.packet_collector.specs.Packet.{PacketSlice}

-- the slice that a piece and the picture's macroblocks hold
abbrev pub slice_in : Piece → List Mb → PacketSlice
slice_in piece out = record {
  header = piece.header;
  first = piece.head.first;
  mbs = mbs_from piece.head.first piece.head.count out;
}

-- The call answered as a reading: its header and its slice, with the macroblocks in their places; or its fault.
abbrev pub FillsPacket : Result Piece Fault → List Mb → Result PacketSlice Fault → Type 0
FillsPacket (Ok piece) out read = read ≡ Ok (slice_in piece out)
FillsPacket (Err fault) out read = read ≡ Err fault

-- an extra header has the expected format
abbrev pub IsExtraOf : Format → Option Header → Type 0
IsExtraOf format None = Unit {0}
IsExtraOf format (Some h) = h.format ≡ format

-- a header of the format, and macroblocks of its picture
pub record IsPieceIn (format : Format) (out : List Mb) (piece : Piece) : Type 0 where
  pub header : IsHeader piece.header
  pub of-format : piece.header.format ≡ format
  pub slice : IsSliceIn piece.header out piece.head
