use Rattle.std.proofs.Common.{◌∙◌, ap, lit≤, ℤ, pos, ◌*ℤ◌, map, w16, to_z, of_z}
use Rattle.idct8.specs.Passes.{factor}
use Rattle.idct8.specs.Transform.{entry, rounded}
use Rattle.idct8.specs.Vectors.{lane}
use Rattle.idct8.specs.declared.passes.Direction.TheVariants.{Inverse}
use Rattle.idct8.proofs.Alone.{column_alone}
use Rattle.idct8.proofs.Factors.{within_same}
use Rattle.idct8.proofs.Sums.{same_sum}
use Rattle.idct8.proofs.Vectors.{passed_lane16, passed_within16}
use Rattle.idct8.proofs.lines.inverse_of_column.Goals as goal

pub line_numbers-numbers-requires : goal.line_numbers-numbers-requires
line_numbers-numbers-requires c = passed_within16 8191 8191 (lit≤ tt) (lit≤ tt) c.column.ensures.size

pub store_in_each_column-requires : goal.store_in_each_column-requires
store_in_each_column-requires c = passed_within16 32000 32000 (lit≤ tt) (lit≤ tt) c.line_numbers-numbers.ensures.size

pub returns-clause-numbers : goal.returns-clause-numbers
returns-clause-numbers c y x hy hx =
    let block = c.args.block.now in
    let read = map (to_z w16) (map (of_z w16) c.column.result) in
    c.store_in_each_column.ensures y x hy hx
    ∙ passed_lane16 32000 y (lit≤ tt) c.line_numbers-numbers.ensures.size
    ∙ c.line_numbers-numbers.ensures.numbers y hy
    ∙ ap (λ (z : ℤ). rounded (pos 2048 *ℤ z))
    (same_sum 8 (λ j. factor Inverse j y *ℤ lane read j) (λ j. factor Inverse j y *ℤ entry block j 0)
    (λ j hj. ap (λ (z : ℤ). factor Inverse j y *ℤ z) (passed_lane16 8191 j (lit≤ tt) c.column.ensures.size
    ∙ c.column.ensures.numbers j hj)))
    ∙ column_alone block c.requires.zeros y x hx

pub returns-clause-range : goal.returns-clause-range
returns-clause-range c y x hy hx =
    within_same 32000 32000 (lit≤ tt) (c.store_in_each_column.ensures y x hy hx
    ∙ passed_lane16 32000 y (lit≤ tt) c.line_numbers-numbers.ensures.size)
    (c.line_numbers-numbers.ensures.size.within y hy)
