use Rattle.std.proofs.Common.{ℕ, ◌+◌, ◌*◌, ◌/◌, ◌%◌, ap, ◌∙◌, arith, pos, ◌-ℤ◌, get_or}
use Rattle.mode_choice.proofs.predicted.differences.Goals as goal

pub returns-clause-differences : goal.returns-clause-differences
returns-clause-differences c = λ k h.
    let predicted : ℕ = get_or c.args.predicted.now (c.args.from + c.args.stride * (k / 8) + k % 8) 0 in
    c.put_differences.ensures.differences k h
    ∙ ap (λ (w : ℕ). pos (get_or c.rows-rows.result.now (w * (k / 8) + k % 8) 0) -ℤ pos predicted) c.width.ensures
    ∙ ap (λ (n : ℕ). pos n -ℤ pos predicted) (c.rows-rows.ensures.samples (k % 8) (k / 8) (omega arith) (omega arith))
