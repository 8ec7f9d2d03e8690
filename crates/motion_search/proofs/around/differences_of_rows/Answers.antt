use Rattle.std.proofs.Common.{◌∙◌, sym, arith, ◌*◌, ◌/◌, ◌%◌, ◌+◌, ℕ}
use Rattle.std.proofs.lemmas.List.{get_or-drop}
use Rattle.h263_types.specs.Sizes.{columns_of}
use Rattle.h263_planes.specs.declared.Plane.TheVariants.{Y}
use Rattle.half_sample.specs.Prediction.{predicted_sample}
use Rattle.motion_search.proofs.Pairs.{part_is_square, predicted_differ}
use Rattle.motion_search.proofs.around.differences_of_rows.Goals as goal

pub returns-clause-value : goal.returns-clause-value
returns-clause-value c = λ p mb r v are.
    let left = 16 * (mb % columns_of p.format) in
    let top = 16 * (mb / columns_of p.format) in
    let rows = c.args.rows.now in
    let at = c.args.at in
    c.differences_of_all.ensures.value
    ∙ predicted_differ c.args.block.now c.sixteen_rows.result.now p mb r v
    (c.sixteen_rows.ensures.value
    ∙ part_is_square rows (λ (i j : ℕ). predicted_sample p Y (left + i) (top + j) v r) at (omega (
      arith,
      c.told-rows,
      c.requires,
    ))
    (λ j i hj hi. sym (get_or-drop at rows (16 * j + i) 0) ∙ are j i hj hi))
