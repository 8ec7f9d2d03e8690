use Rattle.std.proofs.Common.{ℕ, ◌+◌, get_or}
use Rattle.motion_search.proofs.AreaSums.{half_lanes}
use Rattle.motion_search.proofs.areas.half_away.Goals as goal

pub returns : goal.returns
returns c =
    let g = λ (k : ℕ). get_or c.args.sums.now k 0 in
    let at = c.args.at in
    half_lanes g at c.args.left c.args.right c.away.result c.away-2.result c.requires.small c.requires.left
    c.requires.right
    (c.away.ensures (λ i. g (at + i)) (λ i. c.requires.small (at + i)) c.sums_at.ensures)
    (c.away-2.ensures (λ i. g (at + 8 + i)) (λ i. c.requires.small (at + 8 + i)) c.sums_at-2.ensures)
