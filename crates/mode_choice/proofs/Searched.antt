-- The choice where there is a reference, as the search finds it, and the samples that are handed out with it.
use Rattle.std.proofs.Common.{◌≡◌, ◌∙◌, refl, ap, sym, subst, ℕ, ℤ, Bool, true, false, cond, ◌≤◌, List, Option, None, Some, arith, to_z, of_z, w32}
use Rattle.std.proofs.lemmas.Int.{ints}
use Rattle.h263_types.specs.declared.blocks.Block.{Block}
use Rattle.h263_types.specs.declared.blocks.Mb.{Mb}
use Rattle.h263_types.specs.declared.blocks.Mb.TheVariants.{Skip, Inter}
use Rattle.h263_types.specs.declared.params.Params.{Params}
use Rattle.h263_types.specs.declared.vector.Vector.{Vector}
use Rattle.h263_planes.specs.Picture.{Picture}
use Rattle.half_sample.specs.declared.macroblock.Predicted.{Predicted}
use Rattle.half_sample.specs.Macroblock.{IsPredicted, IsPredictionOf}
use Rattle.motion_search.specs.declared.kept.KeptSums.{KeptSums}
use Rattle.motion_search.specs.Areas.{AreSumsOf, AreSumsOfAny}
use Rattle.motion_search.specs.Best.{best_vector}
use Rattle.motion_search.specs.Cost as luma
use Rattle.motion_search.specs.Cost.{IsCost}
use Rattle.picture_header.specs.declared.header.Header.{Header}
use Rattle.mode_choice.specs.Choice.{choice_in_p, deviation_of, inter_of, chooses_intra, predicted_by}
use Rattle.mode_choice.proofs.Choices.{one_of_two}

pub cost_kept : (z : ℤ) → IsCost z → to_z w32 (of_z w32 z) ≡ z
cost_kept z h = omega (arith, ints)

-- where a sum isn't low enough, no greater one is
pub no_greater : (a b : ℕ) (cost : ℤ) → a ≤ b → chooses_intra a cost ≡ false → false ≡ chooses_intra b cost
no_greater a b cost h e = grind (arith, ints)

second_of : {X : Type 0} (t : Bool) (a b : X) → t ≡ false → cond t a b ≡ b
second_of true a b h = cc
second_of false a b h = refl

-- the macroblock by the best vector is the choice where the samples aren't nearer to their mean
pub by_best : (frame reference : Picture) (h : Header) (params : Params) (mb : ℕ) (out : Mb) (v : Vector) (cost : ℤ) →
    IsCost cost → v ≡ (best_vector frame reference mb params.radius h.rounding).vector
    → cost ≡ (best_vector frame reference mb params.radius h.rounding).cost →
    chooses_intra (deviation_of (luma.samples_of frame mb)) (to_z w32 (of_z w32 cost)) ≡ false →
    out ≡ inter_of frame reference h.quant params.keep h.rounding mb v → out ≡ choice_in_p frame reference h params mb
by_best frame reference h params mb out v cost range vector least test made =
    made
    ∙ ap (λ (v : Vector). inter_of frame reference h.quant params.keep h.rounding mb v) vector
    ∙ sym (second_of _ _ _ (ap (λ (z : ℤ). chooses_intra (deviation_of (luma.samples_of frame mb)) z) (sym least
    ∙ sym (cost_kept cost range)) ∙ test))

-- the samples that its vector predicts, where it has one
pub of_inter : (r at quant : ℕ) (p : Picture) (v : Vector) (blocks : List Block) (mb : Mb) (samples : Predicted)
    → mb ≡ predicted_by quant v blocks →
    IsPredicted p at v r samples → IsPredictionOf r (Some p) at mb samples
of_inter r at quant p v blocks mb samples e is =
    let A : Mb → Type 0 = λ m. IsPredictionOf r (Some p) at m samples in
    subst A (sym e) (one_of_two A _ Skip (Inter quant v blocks) tt is)

-- sums that are those of any picture are those of a reference that there may be
pub any_of : (s : KeptSums) → ((p : Picture) → AreSumsOf p s) → (reference : Option Picture) → AreSumsOfAny reference s
any_of s h None = tt
any_of s h (Some p) = h p
