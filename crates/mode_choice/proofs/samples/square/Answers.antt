use Rattle.std.proofs.Common.{ℕ, ◌+◌, ◌*◌, ◌/◌, ◌%◌, ap, ◌∙◌, arith, pos, get_or}
use Rattle.mode_choice.proofs.samples.square.Goals as goal

pub returns-clause-samples : goal.returns-clause-samples
returns-clause-samples c = λ k h.
    c.put_rows.ensures.samples k h
    ∙ ap (λ (w : ℕ). pos (get_or c.rows.result.now (w * (k / 8) + k % 8) 0)) c.width.ensures
    ∙ ap pos (c.rows.ensures.samples (k % 8) (k / 8) (omega arith) (omega arith))
