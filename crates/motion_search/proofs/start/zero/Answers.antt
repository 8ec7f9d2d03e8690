use Rattle.std.proofs.Common.{◌≡◌, ◌∙◌, ap, arith, ℕ, ◌*◌, ◌/◌, ◌%◌, pos}
use Rattle.std.proofs.lemmas.Int.{ints}
use Rattle.h263_types.specs.declared.format.Format.{Format}
use Rattle.h263_types.specs.Sizes.{columns_of}
use Rattle.h263_types.specs.Vectors.{whole_place}
use Rattle.h263_planes.specs.Lent.{picture}
use Rattle.motion_search.specs.Vectors.{zero_vector}
use Rattle.motion_search.proofs.Blocks.{all_rows, costing}
use Rattle.motion_search.proofs.Places.{whole_predicts}
use Rattle.motion_search.proofs.Squares.{zero_is_whole}
use Rattle.motion_search.proofs.start.zero.Goals as goal

stays : (at : ℕ) → pos at ≡ whole_place at (pos 0)
stays at = omega (arith, ints)

pub returns-clause-candidate : goal.returns-clause-candidate
returns-clause-candidate c =
    let block = c.args.block.now in
    let p = picture c.args.reference in
    let mb = c.args.mb in
    let column = c.mb_place-column.result.0 in
    let row = c.mb_place-column.result.1 in
    let across : column ≡ mb % columns_of p.format = c.mb_place-column.ensures.column
    ∙ ap (λ (f : Format). mb % columns_of f) c.format.ensures.format in
    let down : row ≡ mb / columns_of p.format = c.mb_place-column.ensures.row
    ∙ ap (λ (f : Format). mb / columns_of f) c.format.ensures.format in
    c.with_differences.ensures.candidate
    ∙ ap (costing zero_vector)
    (c.differences_at.ensures.value
    ∙ all_rows block p (16 * column) (16 * row)
    ∙ whole_predicts block p mb 0 (16 * column) (16 * row) zero_vector (zero_is_whole 0).even
    (ap (λ (k : ℕ). pos (16 * k)) across ∙ stays (16 * (mb % columns_of p.format)))
    (ap (λ (k : ℕ). pos (16 * k)) down ∙ stays (16 * (mb / columns_of p.format))))
