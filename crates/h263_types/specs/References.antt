-- What the vector of a macroblock may refer to.
use Rattle.std.specs.Prelude.{ℕ}
use Rattle.h263_types.specs.declared.format.Format.{Format}
use Rattle.h263_types.specs.declared.blocks.Mb.{Mb}
use Rattle.h263_types.specs.declared.blocks.Mb.TheVariants.{Skip, Intra, Inter}
use Rattle.h263_types.specs.Vectors.{InReach}

-- the samples that the vector of macroblock k refers to, if it has one, lie in the picture (H.263, 6.1.1)
abbrev pub ReachesInside : Format → ℕ → Mb → Type 0
ReachesInside f k Skip = Unit {0}
ReachesInside f k (Intra quant blocks) = Unit {0}
ReachesInside f k (Inter quant vector blocks) = InReach f k vector.x vector.y
