use Rattle.std.proofs.Common.{◌≡◌, ℕ, ◌/◌, ap, subst, ◌∙◌, replicate}
use Rattle.std.specs.Simd.Lanes.{sum_l}
use Rattle.sad_kernel.specs.Differences.{differences}
use Rattle.mode_choice.proofs.Differences.{from_zero}
use Rattle.mode_choice.proofs.deviation.mean.Goals as goal

pub returns : goal.returns
returns c =
    let samples = c.args.samples.now in
    let sum : differences samples (replicate 256 0)
    ≡ sum_l samples = subst (λ (n : ℕ). differences samples (replicate n 0) ≡ sum_l samples) c.told-samples
    (from_zero samples) in
    ap (λ (n : ℕ). n / 256) (c.differences_from.ensures.value ∙ sum)
