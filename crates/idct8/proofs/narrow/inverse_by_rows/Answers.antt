use Rattle.std.proofs.Common.{◌≡◌, ◌∙◌, ℕ, ◌+◌, ◌*◌, ◌/◌, ◌%◌, pos, slice_index_or, arith, subst}
use Rattle.idct8.specs.Ranges.{Within}
use Rattle.idct8.proofs.Results.{inverse_narrow, value_within}
use Rattle.idct8.proofs.Sizes.{cut_sizes}
use Rattle.idct8.proofs.narrow.inverse_by_rows.Goals as goal

pub narrowed-requires : goal.narrowed-requires
narrowed-requires c at less =
    let place : 8 * (at / 8) + at % 8 ≡ at = omega arith in
    subst (λ (k : ℕ). Within 32000 (slice_index_or c.wide_inverse.result k (pos 0))) place
    (inverse_narrow c.args.block.now (at / 8) (at % 8) (omega arith) (omega arith)
    (λ j i hj hi. value_within (c.requires.values (8 * j + i) (pos 0) (omega arith)))
    (c.wide_inverse.ensures (at / 8) (at % 8) (omega arith) (omega arith)))

pub returns-then-sizes-gt-MOST-clause-range : goal.returns-then-sizes-gt-MOST-clause-range
returns-then-sizes-gt-MOST-clause-range c y x hy hx =
    inverse_narrow c.args.block.now y x hy hx
    (λ j i hj hi. value_within (c.requires.values (8 * j + i) (pos 0) (omega arith)))
    (c.narrowed.ensures (8 * y + x) (omega arith) ∙ c.wide_inverse.ensures y x hy hx)

pub inverse_of_rows-requires-clause-small : goal.inverse_of_rows-requires-clause-small
inverse_of_rows-requires-clause-small c =
    cut_sizes c.args.block.now c.args.count c.requires.count c.sizes.ensures.value c.requires.zeros
    (omega (arith, c.if-sizes-gt-MOST.false))

pub inverse_of_rows-requires-clause-zeros : goal.inverse_of_rows-requires-clause-zeros
inverse_of_rows-requires-clause-zeros c j i h hj hi = c.requires.zeros (8 * j + i) (omega (arith, h))
    (omega (arith, hj, hi))

pub returns-clause-range : goal.returns-clause-range
returns-clause-range c y x hy hx =
    inverse_narrow c.args.block.now y x hy hx
    (λ j i hj hi. value_within (c.requires.values (8 * j + i) (pos 0) (omega arith)))
    (c.inverse_of_rows.ensures y x hy hx)

pub wide_inverse-requires-clause-zeros : goal.wide_inverse-requires-clause-zeros
wide_inverse-requires-clause-zeros c j i h hj hi = c.requires.zeros (8 * j + i) (omega (arith, h))
    (omega (arith, hj, hi))
