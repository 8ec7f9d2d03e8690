use Rattle.std.proofs.Common.{ap, ◌∙◌, refl, ℤ, ℕ}
use Rattle.std.specs.Int.{int_shr}
use Rattle.idct8.specs.Transform.{rounded}
use Rattle.idct8.specs.Vectors.{lane, sum_at}
use Rattle.idct8.specs.declared.passes.Direction.TheVariants.{Inverse}
use Rattle.idct8.proofs.Factors.{pass_of}
use Rattle.idct8.proofs.Sizes.{column_fits}
use Rattle.idct8.proofs.Steps.{passes_are}
use Rattle.idct8.proofs.narrow.inverse_of_rows.Goals as goal

pub columns-sums-requires-clause-fits : goal.columns-sums-requires-clause-fits
columns-sums-requires-clause-fits c = column_fits c.args.block.now c.sums_of_rows.result c.requires.small
    c.sums_of_rows.ensures.sums

pub store_rounded-requires : goal.store_rounded-requires
store_rounded-requires c k hk = (c.columns-sums.ensures k hk).size

pub returns : goal.returns
returns c r k hr hk =
    let f = λ (j : ℕ). lane (sum_at c.sums_of_rows.result j) k in
    c.store_rounded.ensures r k hr hk
    ∙ ap (λ (z : ℤ). int_shr z 25) ((c.columns-sums.ensures r hr).sums k hk)
    ∙ ap rounded (pass_of Inverse f r refl refl refl refl refl refl refl refl)
    ∙ passes_are Inverse c.args.block.now f r k (λ j hj. c.sums_of_rows.ensures.sums j k hj hk)
