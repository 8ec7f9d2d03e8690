use Rattle.std.proofs.Common.{◌*◌, ◌%◌, ◌/◌, arith, ap, ◌∙◌, FitsSigned, w8}
use Rattle.std.proofs.lemmas.Int.{ints, to_z-of_z}
use Rattle.h263_types.specs.Sizes.{width_of, height_of, columns_of}
use Rattle.h263_planes.specs.Lent.{picture}
use Rattle.half_sample.specs.Prediction.{columns_in, whole_part}
use Rattle.half_sample.proofs.Places.{at_place, not_before, same_place}
use Rattle.half_sample.proofs.place.place_of.Goals as goal

pub moved-requires-clause-inside : goal.moved-requires-clause-inside
moved-requires-clause-inside c =
    let f = (picture c.args.reference).format in
    let fits : FitsSigned w8 c.args.vector.x = omega (arith, ints, c.requires.reach) in
    let column = c.mb_place-column.ensures.column ∙ ap (λ g. c.args.mb % columns_of g) c.format.ensures.format in
    at_place c.args.plane column (to_z-of_z w8 c.args.vector.x fits) (not_before c.args.plane (c.args.mb % columns_of f)
    (width_of f) c.args.vector.x c.requires.reach.0.2)

pub moved-requires-2-clause-inside : goal.moved-requires-2-clause-inside
moved-requires-2-clause-inside c =
    let f = (picture c.args.reference).format in
    let fits : FitsSigned w8 c.args.vector.y = omega (arith, ints, c.requires.reach) in
    let row = c.mb_place-column.ensures.row ∙ ap (λ g. c.args.mb / columns_of g) c.format.ensures.format in
    at_place c.args.plane row (to_z-of_z w8 c.args.vector.y fits) (not_before c.args.plane (c.args.mb / columns_of f)
    (height_of f) c.args.vector.y c.requires.reach.1.2)

pub returns-clause-leads : goal.returns-clause-leads
returns-clause-leads c =
    let fx : FitsSigned w8 c.args.vector.x = omega (arith, ints, c.requires.reach) in
    let fy : FitsSigned w8 c.args.vector.y = omega (arith, ints, c.requires.reach) in
    let column = c.mb_place-column.ensures.column ∙ ap (λ g. c.args.mb % columns_of g) c.format.ensures.format in
    let row = c.mb_place-column.ensures.row ∙ ap (λ g. c.args.mb / columns_of g) c.format.ensures.format in
    let n = columns_in c.args.plane in
    record {
      x = same_place (λ k. n * k) (whole_part c.args.plane) c.moved.ensures.place column
          (to_z-of_z w8 c.args.vector.x fx);
      y = same_place (λ k. n * k) (whole_part c.args.plane) c.moved-2.ensures.place row
          (to_z-of_z w8 c.args.vector.y fy);
    }
