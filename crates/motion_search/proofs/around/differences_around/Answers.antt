-- The rows before the place are added up for each of the eight neighbours.
use Rattle.std.proofs.Common.{sym, subst, arith, lit<, zero, suc, drop}
use Rattle.h263_types.specs.declared.vector.Vector.{Vector}
use Rattle.h263_types.specs.Vectors.{InReach}
use Rattle.h263_planes.specs.Lent.{picture}
use Rattle.h263_planes.specs.declared.Plane.TheVariants.{Y}
use Rattle.half_sample.specs.Around.{IsBetween}
use Rattle.half_sample.specs.Prediction.{ArePredicted}
use Rattle.motion_search.proofs.Pairs.{above, above_right, at_left, at_right, below_left, below, below_right, up_left_between}
use Rattle.motion_search.proofs.around.differences_around.Goals as goal

pub luma_around-requires-clause-reach : goal.luma_around-requires-clause-reach
luma_around-requires-clause-reach c =
    subst (λ (w : Vector). InReach (picture c.args.reference).format c.args.mb w.x w.y) (sym c.neighbour.ensures)
    (c.requires.inside 0 (lit< tt))

pub luma_around-requires-clause-beyond : goal.luma_around-requires-clause-beyond
luma_around-requires-clause-beyond c =
    subst (λ (w : Vector). InReach (picture c.args.reference).format c.args.mb w.x w.y)
    (sym (below_right c.args.vector c.neighbour.result c.neighbour.ensures)) (c.requires.inside 8 (lit< tt))

pub luma_around-requires-clause-between : goal.luma_around-requires-clause-between
luma_around-requires-clause-between c = subst IsBetween (sym c.neighbour.ensures)
    (up_left_between c.args.vector c.requires.whole)

pub returns-clause-value : goal.returns-clause-value
returns-clause-value c zero hn =
    c.differences_of_rows.ensures.value _ _ _ _
    (subst (λ (w : Vector). ArePredicted 16 (picture c.args.reference) Y c.args.mb w c.args.rounding
    c.luma_around.new.out.up_left) c.neighbour.ensures c.luma_around.ensures.up_left)
returns-clause-value c (suc zero) hn =
    c.differences_of_rows-2.ensures.value _ _ _ _
    (subst (λ (w : Vector). ArePredicted 16 (picture c.args.reference) Y c.args.mb w c.args.rounding
    c.luma_around.new.out.up) (above c.args.vector c.neighbour.result c.neighbour.ensures) c.luma_around.ensures.up)
returns-clause-value c (suc (suc zero)) hn =
    c.differences_of_rows-3.ensures.value _ _ _ _
    (subst (λ (w : Vector). ArePredicted 16 (picture c.args.reference) Y c.args.mb w c.args.rounding
    c.luma_around.new.out.up_right) (above_right c.args.vector c.neighbour.result c.neighbour.ensures)
    c.luma_around.ensures.up_right)
returns-clause-value c (suc (suc (suc zero))) hn =
    c.differences_of_rows-4.ensures.value _ _ _ _
    (subst (λ (w : Vector). ArePredicted 16 (picture c.args.reference) Y c.args.mb w c.args.rounding
    (drop 16 c.luma_around.new.out.left)) (at_left c.args.vector c.neighbour.result c.neighbour.ensures)
    c.luma_around.ensures.left)
returns-clause-value c (suc (suc (suc (suc zero)))) hn =
    c.differences_of_rows-5.ensures.value _ _ _ _
    (subst (λ (w : Vector). ArePredicted 16 (picture c.args.reference) Y c.args.mb w c.args.rounding
    (drop 16 c.luma_around.new.out.right)) (at_right c.args.vector c.neighbour.result c.neighbour.ensures)
    c.luma_around.ensures.right)
returns-clause-value c (suc (suc (suc (suc (suc zero))))) hn =
    c.differences_of_rows-6.ensures.value _ _ _ _
    (subst (λ (w : Vector). ArePredicted 16 (picture c.args.reference) Y c.args.mb w c.args.rounding
    (drop 16 c.luma_around.new.out.up_left)) (below_left c.args.vector c.neighbour.result c.neighbour.ensures)
    c.luma_around.ensures.down_left)
returns-clause-value c (suc (suc (suc (suc (suc (suc zero)))))) hn =
    c.differences_of_rows-7.ensures.value _ _ _ _
    (subst (λ (w : Vector). ArePredicted 16 (picture c.args.reference) Y c.args.mb w c.args.rounding
    (drop 16 c.luma_around.new.out.up)) (below c.args.vector c.neighbour.result c.neighbour.ensures)
    c.luma_around.ensures.down)
returns-clause-value c (suc (suc (suc (suc (suc (suc (suc zero))))))) hn =
    c.differences_of_rows-8.ensures.value _ _ _ _
    (subst (λ (w : Vector). ArePredicted 16 (picture c.args.reference) Y c.args.mb w c.args.rounding
    (drop 16 c.luma_around.new.out.up_right)) (below_right c.args.vector c.neighbour.result c.neighbour.ensures)
    c.luma_around.ensures.down_right)
returns-clause-value c (suc (suc (suc (suc (suc (suc (suc (suc n)))))))) hn = absurd (omega (arith, hn))

pub returns-clause-most : goal.returns-clause-most
returns-clause-most c zero hn = c.differences_of_rows.ensures.most
returns-clause-most c (suc zero) hn = c.differences_of_rows-2.ensures.most
returns-clause-most c (suc (suc zero)) hn = c.differences_of_rows-3.ensures.most
returns-clause-most c (suc (suc (suc zero))) hn = c.differences_of_rows-4.ensures.most
returns-clause-most c (suc (suc (suc (suc zero)))) hn = c.differences_of_rows-5.ensures.most
returns-clause-most c (suc (suc (suc (suc (suc zero))))) hn = c.differences_of_rows-6.ensures.most
returns-clause-most c (suc (suc (suc (suc (suc (suc zero)))))) hn = c.differences_of_rows-7.ensures.most
returns-clause-most c (suc (suc (suc (suc (suc (suc (suc zero))))))) hn = c.differences_of_rows-8.ensures.most
returns-clause-most c (suc (suc (suc (suc (suc (suc (suc (suc n)))))))) hn = absurd (omega (arith, hn))
