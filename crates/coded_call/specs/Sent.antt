-- What a sender may send.
use Rattle.std.specs.Prelude.{◌≡◌, ℕ, ◌<◌, List, length}
use Rattle.h263_types.specs.declared.blocks.Mb.{Mb}
use Rattle.h263_types.specs.Blocks.{HasQuant, IsMb, IsOfKind, HasWholeBlocks, mb_in}
use Rattle.h263_types.specs.References.{ReachesInside}
use Rattle.h263_types.specs.Sizes.{mbs_of}
use Rattle.picture_header.specs.declared.header.Header.{Header}

-- macroblock k of a picture with this header: its quantiser is the picture's
pub record IsSentAt (h : Header) (k : ℕ) (m : Mb) : Type 0 where
  pub in_range : IsMb m
  pub of_kind : IsOfKind h.kind m
  pub plain : HasQuant h.quant m
  pub whole : HasWholeBlocks m
  pub reach : ReachesInside h.format k m

-- all macroblocks of such a picture
pub record AreSent (h : Header) (mbs : List Mb) : Type 0 where
  pub count : length mbs ≡ mbs_of h.format
  pub each : (k : ℕ) → k < mbs_of h.format → IsSentAt h k (mb_in mbs k)
