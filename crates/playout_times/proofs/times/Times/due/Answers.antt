use Rattle.std.proofs.Common.{ℕ, ◌+◌, ◌-◌, min, Some, ap, sym, ◌∙◌}
use Rattle.playout_times.proofs.Dues.{due, not_due}
use Rattle.playout_times.proofs.times.Times.due.Goals as goal

pub returns-then-captured : goal.returns-then-captured
returns-then-captured c = λ past s.
    sym (not_due c.args.self.now past s (sym c.least_of-captured.ensures ∙ c.if-captured.true))

pub returns : goal.returns
returns c = λ past s.
    let t = c.args.self.now in
    let captured = c.least_of-captured.result in
    ap (λ (n : ℕ). Some n)
    (c.saturating_sub.ensures
    ∙ ap (λ (n : ℕ). n - 4611686018427387904)
    (c.saturating_add-2.ensures
    ∙ ap (λ (n : ℕ). min (n + t.wait) 18446744073709551615)
    (c.saturating_add.ensures
    ∙ ap (λ (n : ℕ). min (captured + n) 18446744073709551615)
    (c.min-least.ensures
    ∙ ap (λ (n : ℕ). min n c.least-2.result) c.least.ensures
    ∙ ap (λ (n : ℕ). min (min t.recent.this (min t.recent.before t.recent.earlier)) n) c.least-2.ensures))))
    ∙ due t captured past s c.least_of-captured.ensures c.if-captured.false
