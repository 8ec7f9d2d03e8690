-- A macroblock that is predicted.
use Rattle.std.specs.Prelude.{ℕ, Option, Some, None}
use Rattle.h263_types.specs.declared.blocks.Mb.{Mb}
use Rattle.h263_types.specs.declared.blocks.Mb.TheVariants.{Skip, Intra, Inter}
use Rattle.h263_types.specs.declared.vector.Vector.{Vector}
use Rattle.h263_planes.specs.declared.Plane.TheVariants.{Y, Cb, Cr}
use Rattle.h263_planes.specs.Picture.{Picture}
use Rattle.half_sample.specs.declared.macroblock.Predicted.{Predicted}
use Rattle.half_sample.specs.Prediction.{ArePredicted}

-- the samples that a vector predicts for macroblock `at` in the three planes
pub record IsPredicted (p : Picture) (at : ℕ) (v : Vector) (r : ℕ) (samples : Predicted) : Type 0 where
  pub y : ArePredicted 16 p Y at v r samples.y
  pub cb : ArePredicted 8 p Cb at v r samples.cb
  pub cr : ArePredicted 8 p Cr at v r samples.cr

-- the samples are those that the vector of macroblock `at` predicts from the reference, where it is an
-- inter macroblock; of other macroblocks nothing is said
abbrev pub IsPredictionOf : ℕ → Option Picture → ℕ → Mb → Predicted → Type 0
IsPredictionOf r reference at Skip samples = Unit {0}
IsPredictionOf r reference at (Intra quant blocks) samples = Unit {0}
IsPredictionOf r None at (Inter quant v blocks) samples = Unit {0}
IsPredictionOf r (Some p) at (Inter quant v blocks) samples = IsPredicted p at v r samples
