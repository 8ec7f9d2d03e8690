-- A picture in the middle of its coding.
use Rattle.std.specs.Prelude.{◌≡◌, ◌<◌, ℕ, List, Option, take}
use Rattle.h263_types.specs.declared.blocks.Mb.{Mb}
use Rattle.h263_types.specs.Blocks.{mb_in}
use Rattle.h263_planes.specs.Picture.{Picture}
use Rattle.h263_planes.specs.Samples.{IsPicture}
use Rattle.picture_header.specs.declared.header.Header.{Header}
use Rattle.picture_recon.specs.Shown.{ShowsFirst}
use Rattle.picture_recon.specs.Undrawn.{undrawn_mb}
use Rattle.packet_cutter.specs.declared.cutter.Cutter.{Cutter}
use Rattle.packet_cutter.specs.Cutting.{HoldsMbs, IsPictureBegun, added_of, cut_format, cutter_kind, cutter_quant}

-- the cutter holds the first `count` macroblocks of picture `number`
pub record HoldsFirst (number : ℕ) (h : Header) (mbs : List Mb) (count : ℕ) (c : Cutter) : Type 0 where
  pub begun : IsPictureBegun c
  pub holds : HoldsMbs c number h (take count mbs)
  pub added : added_of c ≡ count
  pub kind : cutter_kind c ≡ h.kind
  pub quant : cutter_quant c ≡ h.quant
  pub format : cut_format c ≡ h.format

-- the picture shows the first `count` macroblocks
pub record HasShown (h : Header) (reference : Option Picture) (mbs : List Mb) (count : ℕ) (p : Picture) : Type 0 where
  pub whole : IsPicture p
  pub format : p.format ≡ h.format
  pub shows : ShowsFirst h.format h.rounding reference mbs count p

-- the picture, which isn't drawn, has the levels of the first `count` macroblocks
pub record HasLevels (h : Header) (mbs : List Mb) (count : ℕ) (p : Picture) : Type 0 where
  pub whole : IsPicture p
  pub format : p.format ≡ h.format
  pub levels : (k : ℕ) → k < count → undrawn_mb h.quant p k ≡ mb_in mbs k
