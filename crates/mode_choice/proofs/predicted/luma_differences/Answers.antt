use Rattle.std.proofs.Common.{◌≡◌, ◌∙◌, ℕ, ◌+◌, ◌*◌, ◌/◌, ◌%◌, ap, arith, get_or, pos, ◌-ℤ◌}
use Rattle.h263_planes.specs.declared.Plane.TheVariants.{Y}
use Rattle.h263_planes.specs.Lent.{picture}
use Rattle.h263_planes.specs.Samples.{sample_at}
use Rattle.mode_choice.proofs.predicted.luma_differences.Goals as goal

pub returns-clause-differences : goal.returns-clause-differences
returns-clause-differences c k h =
    let b : ℕ = c.args.block in
    let place : 128 * (b / 2) + 8 * (b % 2) + 16 * (k / 8) + k % 8
    ≡ 16 * (8 * (b / 2) + k / 8) + (8 * (b % 2) + k % 8) = omega arith in
    c.differences.ensures.differences k h
    ∙ ap (λ (n : ℕ). pos (sample_at (picture c.args.frame) Y (c.args.x + k % 8) (c.args.y + k / 8)) -ℤ pos
    (get_or c.args.predicted.now n 0)) place
