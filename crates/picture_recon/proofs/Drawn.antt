-- What an inter macroblock sets, whether its prediction is made from the reference or known before.
use Rattle.std.proofs.Common.{◌≡◌, ℕ, List, Option, Some, None, sym, subst}
use Rattle.h263_types.specs.declared.Kind.{Kind}
use Rattle.h263_types.specs.declared.Kind.TheVariants.{I, P}
use Rattle.h263_types.specs.declared.format.Format.{Format}
use Rattle.h263_types.specs.declared.blocks.Block.{Block}
use Rattle.h263_types.specs.declared.blocks.Mb.{Mb}
use Rattle.h263_types.specs.declared.blocks.Mb.TheVariants.{Inter}
use Rattle.h263_types.specs.declared.vector.Vector.{Vector}
use Rattle.h263_types.specs.Blocks.{IsOfKind}
use Rattle.h263_planes.specs.Picture.{Picture}
use Rattle.h263_planes.specs.References.{HasReference}
use Rattle.half_sample.specs.declared.macroblock.Predicted.{Predicted}
use Rattle.half_sample.specs.Macroblock.{IsPredicted, IsPredictionOf}
use Rattle.picture_recon.specs.Shown.{SetsMb}

-- what a macroblock sets, by another name for it
pub same_drawn : (f : Format) (r at : ℕ) (mb other : Mb) (reference : Option Picture) (old new : Picture) → mb ≡ other
    → SetsMb f r reference at other old new → SetsMb f r reference at mb old new
same_drawn f r at mb other reference old new same sets = subst (λ (m : Mb). SetsMb f r reference at m old new)
    (sym same) sets

-- the predicted samples at hand serve every reference and vector of which they are predicted
abbrev pub SetsPredicted : Format → ℕ → ℕ → List Block → Predicted → Picture → Picture → Type 0
SetsPredicted f at quant blocks samples old new =
    (p : Picture) (w : Vector) (b : ℕ) → p.format ≡ f → IsPredicted p at w b samples
    → SetsMb f b (Some p) at (Inter quant w blocks) old new

-- a picture with an inter macroblock has a reference, from which it is predicted
by_reference : (kind : Kind) (f : Format) (r at quant : ℕ) (v : Vector) (blocks : List Block)
    (reference : Option Picture) (samples : Predicted) (old new : Picture) →
    HasReference kind f reference → IsOfKind kind (Inter quant v blocks)
    → IsPredictionOf r reference at (Inter quant v blocks) samples → SetsPredicted f at quant blocks samples old new →
    SetsMb f r reference at (Inter quant v blocks) old new
by_reference I f r at quant v blocks reference samples old new has kind is sets = absurd kind
by_reference P f r at quant v blocks None samples old new has kind is sets = absurd has
by_reference P f r at quant v blocks (Some p) samples old new has kind is sets = sets p v r has is

pub prediction_drawn : (kind : Kind) (f : Format) (r at quant : ℕ) (v : Vector) (blocks : List Block) (mb : Mb)
    (reference : Option Picture) (samples : Predicted) (old new : Picture) →
    mb ≡ Inter quant v blocks → HasReference kind f reference → IsOfKind kind mb
    → IsPredictionOf r reference at mb samples → SetsPredicted f at quant blocks samples old new →
    SetsMb f r reference at mb old new
prediction_drawn kind f r at quant v blocks mb reference samples old new inter has of_kind is sets =
    same_drawn f r at mb (Inter quant v blocks) reference old new inter
    (by_reference kind f r at quant v blocks reference samples old new has
    (subst (λ (m : Mb). IsOfKind kind m) inter of_kind) (subst (λ (m : Mb). IsPredictionOf r reference at m samples)
    inter is) sets)

-- the prediction is made from the reference itself
pub reference_drawn : (f : Format) (r at : ℕ) (mb other : Mb) (reference : Option Picture) (p old new : Picture)
    → mb ≡ other → reference ≡ Some p →
    SetsMb f r (Some p) at other old new → SetsMb f r reference at mb old new
reference_drawn f r at mb other reference p old new inter seen sets =
    same_drawn f r at mb other reference old new inter
    (subst (λ (q : Option Picture). SetsMb f r q at other old new) (sym seen) sets)

-- and that reference has the picture's format
format_of_reference : (kind : Kind) (f : Format) (quant : ℕ) (v : Vector) (blocks : List Block) (p : Picture)
    → HasReference kind f (Some p) → IsOfKind kind (Inter quant v blocks) → p.format ≡ f
format_of_reference I f quant v blocks p has kind = absurd kind
format_of_reference P f quant v blocks p has kind = has

pub reference_format : (kind : Kind) (f : Format) (quant : ℕ) (v : Vector) (blocks : List Block) (mb : Mb)
    (reference : Option Picture) (p : Picture) → mb ≡ Inter quant v blocks → reference ≡ Some p →
    HasReference kind f reference → IsOfKind kind mb → p.format ≡ f
reference_format kind f quant v blocks mb reference p inter seen has of_kind =
    format_of_reference kind f quant v blocks p (subst (λ (q : Option Picture). HasReference kind f q) seen has)
    (subst (λ (m : Mb). IsOfKind kind m) inter of_kind)
