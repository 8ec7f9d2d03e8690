use Rattle.std.proofs.Common.{◌∙◌, ap, lit≤, ℤ, pos, ◌*ℤ◌, map, w16, to_z, of_z}
use Rattle.idct8.specs.Transform.{rounded}
use Rattle.idct8.specs.declared.passes.Direction.TheVariants.{Inverse}
use Rattle.idct8.proofs.Alone.{row_alone}
use Rattle.idct8.proofs.Factors.{within_same}
use Rattle.idct8.proofs.Steps.{row_terms}
use Rattle.idct8.proofs.Vectors.{passed_lane16, passed_within16}
use Rattle.idct8.proofs.lines.inverse_of_row.Goals as goal

pub line_numbers-numbers-requires : goal.line_numbers-numbers-requires
line_numbers-numbers-requires c = passed_within16 8191 8191 (lit≤ tt) (lit≤ tt) c.row.ensures.size

pub store_in_each_row-requires : goal.store_in_each_row-requires
store_in_each_row-requires c = passed_within16 32000 32000 (lit≤ tt) (lit≤ tt) c.line_numbers-numbers.ensures.size

pub returns-clause-numbers : goal.returns-clause-numbers
returns-clause-numbers c y x hy hx =
    c.store_in_each_row.ensures y x hy hx
    ∙ passed_lane16 32000 x (lit≤ tt) c.line_numbers-numbers.ensures.size
    ∙ c.line_numbers-numbers.ensures.numbers x hx
    ∙ ap (λ (z : ℤ). rounded (pos 2048 *ℤ z))
    (row_terms Inverse (map (to_z w16) (map (of_z w16) c.row.result)) c.args.block.now 0 x
    (λ i hi. passed_lane16 8191 i (lit≤ tt) c.row.ensures.size ∙ c.row.ensures.numbers i hi))
    ∙ row_alone c.args.block.now c.requires.zeros y x hy hx

pub returns-clause-range : goal.returns-clause-range
returns-clause-range c y x hy hx =
    within_same 32000 32000 (lit≤ tt) (c.store_in_each_row.ensures y x hy hx
    ∙ passed_lane16 32000 x (lit≤ tt) c.line_numbers-numbers.ensures.size)
    (c.line_numbers-numbers.ensures.size.within x hx)
