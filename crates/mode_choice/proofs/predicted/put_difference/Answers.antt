use Rattle.std.proofs.Common.{◌≡◌, ◌∙◌, ℕ, ◌*◌, ◌<◌, List, ap, arith, take, length, get_or, pos, ◌-ℤ◌}
use Rattle.std.proofs.lemmas.List.{get_or-take, length-take}
use Rattle.std.proofs.lemmas.Simd.{length-put_chunk}
use Rattle.mode_choice.proofs.Lanes.{difference_at, differences_l, length_differences}
use Rattle.mode_choice.proofs.Rows.{row_is_put}
use Rattle.mode_choice.proofs.predicted.put_difference.Goals as goal

pub returns-clause-long : goal.returns-clause-long
returns-clause-long c = length-put_chunk (8 * c.args.j) c.args.residuals.now (differences_l (take 8 c.args.row.now)
    (take 8 c.args.predicted.now)) ∙ c.requires.block

pub returns-clause-residuals : goal.returns-clause-residuals
returns-clause-residuals c =
    let row : List ℕ = c.args.row.now in
    let predicted : List ℕ = c.args.predicted.now in
    let eight : length (take 8 row) ≡ 8 = omega (arith, length-take 8 row, c.requires.row) in
    let as_long : length (take 8 predicted) ≡ 8 = omega (arith, length-take 8 predicted, c.requires.predicted) in
    row_is_put c.args.residuals.now (differences_l (take 8 row) (take 8 predicted))
    (λ x. pos (get_or row x 0) -ℤ pos (get_or predicted x 0)) c.args.j c.requires.block
    (length_differences (take 8 row) (take 8 predicted) (omega (arith, eight, as_long)) ∙ eight) c.requires.j
    (λ x h.
    let same_row : get_or (take 8 row) x 0 ≡ get_or row x 0 = get_or-take 8 row x 0 h in
    let same_predicted : get_or (take 8 predicted) x 0 ≡ get_or predicted x 0 = get_or-take 8 predicted x 0 h in
    let small_row : get_or row x 0 < 256 = omega (arith, c.type_inv.row x) in
    let small_predicted : get_or predicted x 0 < 256 = omega (arith, c.type_inv.predicted x) in
    difference_at (take 8 row) (take 8 predicted) x (omega (arith, h, eight)) (omega (arith, h, as_long))
    (omega (arith, same_row, small_row)) (omega (arith, same_predicted, small_predicted))
    ∙ ap (λ (n : ℕ). pos n -ℤ pos (get_or (take 8 predicted) x 0)) same_row
    ∙ ap (λ (n : ℕ). pos (get_or row x 0) -ℤ pos n) same_predicted)
