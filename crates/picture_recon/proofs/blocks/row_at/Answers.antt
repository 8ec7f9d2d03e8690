use Rattle.std.proofs.Common.{◌≡◌, ℕ, ◌+◌, ◌-◌, get_or, take, drop, ap, ◌∙◌, arith, get_or-take, get_or-drop}
use Rattle.std.proofs.lemmas.Simd.{get_or-chunk}
use Rattle.picture_recon.proofs.blocks.row_at.Goals as goal

pub returns : goal.returns
returns c = λ i hi.
    let at = c.args.at in
    let rows = c.args.rows.now in
    let lent = take (at + 8 - at) (drop at rows) in
    let here : 0 + i ≡ i = omega arith in
    get_or-chunk 0 8 lent i 0 hi ∙ ap (λ (k : ℕ). get_or lent k 0) here
    ∙ get_or-take (at + 8 - at) (drop at rows) i 0 (omega arith) ∙ get_or-drop at rows i 0
