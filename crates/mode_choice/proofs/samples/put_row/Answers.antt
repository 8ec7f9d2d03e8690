use Rattle.std.proofs.Common.{◌≡◌, ◌∙◌, ℕ, ◌*◌, ◌<◌, List, ap, arith, take, length, get_or, pos}
use Rattle.std.proofs.lemmas.List.{get_or-take, length-take}
use Rattle.std.proofs.lemmas.Simd.{length-put_chunk}
use Rattle.mode_choice.proofs.Lanes.{length_widened, widened_at, widened_l}
use Rattle.mode_choice.proofs.Rows.{row_is_put}
use Rattle.mode_choice.proofs.samples.put_row.Goals as goal

pub returns-clause-long : goal.returns-clause-long
returns-clause-long c = length-put_chunk (8 * c.args.y) c.args.samples.now (widened_l (take 8 c.args.row.now))
    ∙ c.requires.block

pub returns-clause-samples : goal.returns-clause-samples
returns-clause-samples c =
    let row : List ℕ = c.args.row.now in
    let eight : length (take 8 row) ≡ 8 = omega (arith, length-take 8 row, c.requires.row) in
    row_is_put c.args.samples.now (widened_l (take 8 row)) (λ x. pos (get_or row x 0)) c.args.y c.requires.block
    (length_widened (take 8 row) ∙ eight) c.requires.y
    (λ x h.
    let same : get_or (take 8 row) x 0 ≡ get_or row x 0 = get_or-take 8 row x 0 h in
    let small : get_or row x 0 < 256 = omega (arith, c.type_inv.row x) in
    widened_at (take 8 row) x (omega (arith, h, eight)) (omega (arith, same, small)) ∙ ap pos same)
