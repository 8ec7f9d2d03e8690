use Rattle.std.proofs.Common.{◌≡◌, ◌<◌, ◌∙◌, ℕ, ℤ, List, pos, ◌+ℤ◌, ◌*ℤ◌, ap, sym}
use Rattle.idct8.specs.declared.passes.Direction.TheVariants.{Inverse}
use Rattle.idct8.specs.declared.passes.Row.{Row}
use Rattle.idct8.specs.Vectors.{lane, list_at, row_at, sum_at}
use Rattle.idct8.specs.Transform.{rounded}
use Rattle.idct8.proofs.Eights.{listed}
use Rattle.idct8.proofs.Steps.{same_rounded, passes_are, passes_of_parts}
use Rattle.idct8.proofs.two_passes.inverse_of_first.Goals as goal

parts_listed : (high low : List Row) (k j : ℕ) (z : ℤ) → j < 8
    → z ≡ pos 8192 *ℤ lane (row_at high j) k +ℤ lane (row_at low j) k
    → z ≡ pos 8192 *ℤ lane (list_at high k) j +ℤ lane (list_at low k) j
parts_listed high low k j z hj e = e ∙ ap (λ (a : ℤ). pos 8192 *ℤ a +ℤ lane (row_at low j) k) (sym (listed high k j hj))
    ∙ ap (λ (b : ℤ). pos 8192 *ℤ lane (list_at high k) j +ℤ b) (sym (listed low k j hj))

pub returns : goal.returns
returns c r k hr hk =
    let f = λ (j : ℕ). lane (sum_at c.sums_of_rows.result j) k in
    c.round.ensures r k hr hk
    ∙ same_rounded (c.pass-high.ensures.sums r k hr hk) (c.pass-low.ensures.sums r k hr hk)
    ∙ ap rounded (passes_of_parts Inverse (list_at c.split.result.0 k) (list_at c.split.result.1 k) f r
    (λ j hj. parts_listed c.split.result.0 c.split.result.1 k j (f j) hj (c.split.ensures.whole j k hj hk)))
    ∙ passes_are Inverse c.args.block.now f r k (λ j hj. c.sums_of_rows.ensures.sums j k hj hk)
