-- What the cutter holds: a picture so far, and the packets of the one that was finished last.
use Rattle.std.specs.Box.{boxed_slice_items}
use Rattle.std.specs.Prelude.{◌≡◌, ℕ, List, take, All}
use Rattle.h263_types.specs.declared.Kind.{Kind}
use Rattle.h263_types.specs.declared.format.Format.{Format}
use Rattle.h263_types.specs.declared.blocks.Mb.{Mb}
use Rattle.picture_header.specs.declared.header.Header.{Header}
use Rattle.packet_cutter.specs.declared.cutter.Cutter.{Cutter}
use Rattle.picture_header.specs.Ranges.{IsHeader}
use Rattle.packet_cutter.specs.Taken.{IsTaken, unmarked}
use Rattle.packet_cutter.specs.Kept.{most_bytes, kept_packets}

-- the format of its pictures, and the most bytes of a packet
abbrev pub cut_format : Cutter → Format
cut_format c = c.header.format

abbrev pub limit_of : Cutter → ℕ
limit_of c = most_bytes c.packets

-- the kind and the quantiser of the picture
abbrev pub cutter_kind : Cutter → Kind
cutter_kind c = c.header.kind

abbrev pub cutter_quant : Cutter → ℕ
cutter_quant c = c.header.quant

-- how many of the picture's macroblocks were added
abbrev pub added_of : Cutter → ℕ
added_of c = c.added

-- the sequence number of the next packet
abbrev pub sequence_of : Cutter → ℕ
sequence_of c = c.sequence

-- the packets of the picture that was finished last
abbrev pub cutter_packets : Cutter → List (List ℕ)
cutter_packets c = kept_packets c.packets

-- a cutter goes on with its picture: nothing of it has changed but the macroblocks that were added
pub record OnlyAdds (old new : Cutter) : Type 0 where
  pub kind : cutter_kind new ≡ cutter_kind old
  pub quant : cutter_quant new ≡ cutter_quant old
  pub format : cut_format new ≡ cut_format old
  pub limit : limit_of new ≡ limit_of old
  pub sequence : sequence_of new ≡ sequence_of old
  pub packets : cutter_packets new ≡ cutter_packets old

-- a picture is begun, and its macroblocks so far are of its kind, and have its quantiser and their marks
pub record IsPictureBegun (c : Cutter) : Type 0 where
  pub header : IsHeader c.header
  pub each : All (IsTaken (cutter_kind c) (cutter_quant c)) (take c.added (boxed_slice_items c.mbs))

-- this picture was begun, and these are its macroblocks so far
pub record HoldsMbs (c : Cutter) (number : ℕ) (h : Header) (mbs : List Mb) : Type 0 where
  pub number_is : c.number ≡ number
  pub header_is : c.header ≡ h
  pub mbs_are : unmarked (take c.added (boxed_slice_items c.mbs)) ≡ mbs
