use Rattle.std.proofs.Common.{◌≡◌, ap, sym, subst, ◌∙◌, arith, ℕ, ◌≤◌, List, replicate, ℤ, false, pos, ◌-ℤ◌, ◌≤ℤ◌}
use Rattle.std.specs.Prelude.{int_lt}
use Rattle.std.proofs.lemmas.Int.{ints}
use Rattle.h263_planes.specs.Lent.{picture}
use Rattle.motion_search.specs.Cost.{samples_of}
use Rattle.sad_kernel.specs.Differences.{differences}
use Rattle.mode_choice.specs.Choice.{deviation_of, chooses_intra, mean_of}
use Rattle.mode_choice.proofs.Searched.{cost_kept, no_greater}
use Rattle.mode_choice.proofs.macroblock.is_nearer_to_mean.Goals as goal

-- no sum is below a number that isn't above 0
none_below : (deviation : ℕ) (cost : ℤ) → cost ≤ℤ pos 500 → false ≡ int_lt (pos deviation) (cost -ℤ pos 500)
none_below deviation cost h = grind (arith, ints)

pub returns-then-cost-le500 : goal.returns-then-cost-le500
returns-then-cost-le500 c = none_below (deviation_of (samples_of (picture c.args.frame) c.args.mb)) c.args.cost
    (omega (arith, ints, c.if-cost-le500.true, c.requires.cost.low, c.requires.cost.high))

pub returns-then-is_intra : goal.returns-then-is_intra
returns-then-is_intra c =
    c.is_intra-then-is_intra.ensures
    ∙ ap (λ (cost : ℤ). chooses_intra c.deviation.result cost) (cost_kept c.args.cost c.requires.cost)
    ∙ ap (λ (d : ℕ). chooses_intra d c.args.cost) (c.deviation.ensures.value
    ∙ ap deviation_of c.luma_samples-samples.ensures)

pub returns-else-is_intra : goal.returns-else-is_intra
returns-else-is_intra c =
    let samples = samples_of (picture c.args.frame) c.args.mb in
    let low : chooses_intra c.halves_apart.result c.args.cost ≡ false =
    ap (λ (cost : ℤ). chooses_intra c.halves_apart.result cost) (sym (cost_kept c.args.cost c.requires.cost))
    ∙ sym c.is_intra.ensures ∙ c.if-is_intra.false in
    no_greater c.halves_apart.result (deviation_of samples) c.args.cost
    (subst (λ (xs : List ℕ). c.halves_apart.result ≤ differences xs (replicate 256 (mean_of samples)))
    c.luma_samples-samples.ensures (c.halves_apart.ensures.less (mean_of samples)))
    low
