use Rattle.std.proofs.Common.{◌≡◌, ◌∙◌, ℕ, ◌+◌, ◌*◌, ◌/◌, ◌%◌, ap, arith, get_or, pos, ◌-ℤ◌}
use Rattle.h263_planes.specs.Lent.{picture}
use Rattle.h263_planes.specs.Samples.{sample_at}
use Rattle.mode_choice.proofs.predicted.colour_differences.Goals as goal

pub returns-clause-differences : goal.returns-clause-differences
returns-clause-differences c k h =
    let place : 0 + 8 * (k / 8) + k % 8 ≡ k = omega arith in
    c.differences.ensures.differences k h
    ∙ ap (λ (n : ℕ). pos (sample_at (picture c.args.frame) c.args.plane (c.args.x + k % 8) (c.args.y + k / 8)) -ℤ pos
    (get_or c.args.predicted.now n 0)) place
