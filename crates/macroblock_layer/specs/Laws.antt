-- What a syntax that has macroblocks in it needs to know of them.
use Rattle.std.specs.Prelude.{ℕ, ◌≤◌, length}
use Rattle.h263_types.specs.declared.Kind.{Kind}
use Rattle.h263_types.specs.declared.vector.Vector.{Vector}
use Rattle.h263_types.specs.declared.vector.Reach.{Reach}
use Rattle.h263_types.specs.declared.blocks.Mb.{Mb}
use Rattle.h263_types.specs.Blocks.{IsMb, IsOfKind, HasWholeBlocks}
use Rattle.h263_bits.specs.Syntax.{IsProductive}
use Rattle.macroblock_layer.specs.Text.{mb, IsMbText}
use Rattle.macroblock_layer.specs.Written.{mb_text, IsStepped, IsReached}

-- stuffing and events are all that is read again and again, and each takes a bit at least
abbrev pub AreMbsProductive : Type 0
AreMbsProductive =
    (kind : Kind) (quant : ℕ) (reach : Reach) (predictor : Vector)
    → IsProductive (mb kind quant reach predictor)

-- what is written is spelled, where the macroblock's vector, if it has one, is in reach
abbrev pub AreMbsSpelt : Type 0
AreMbsSpelt =
    (kind : Kind) (quant : ℕ) (reach : Reach) (predictor : Vector) (m : Mb)
    → IsMb m → IsOfKind kind m → IsStepped quant m → HasWholeBlocks m → IsReached reach m
    → IsMbText kind quant reach predictor m (mb_text kind quant predictor m)

-- no text that is written is longer
abbrev pub AreMbsShort : Type 0
AreMbsShort =
    (kind : Kind) (quant : ℕ) (predictor : Vector) (m : Mb)
    → HasWholeBlocks m → length (mb_text kind quant predictor m) ≤ 8492

pub record MbLaws : Type 0 where
  pub productive : AreMbsProductive
  pub spelt : AreMbsSpelt
  pub short : AreMbsShort
