-- A vector without a mark has more than the limit by the sums of its quarters.
use Rattle.std.proofs.Common.{arith, ℕ, ◌+◌, get_or}
use Rattle.h263_planes.specs.Lent.{picture}
use Rattle.std.specs.Int.{abs_diff}
use Rattle.motion_search.proofs.AreaSums.{block_area_small, half_small}
use Rattle.motion_search.proofs.Held.{ruled_out_by_kept}
use Rattle.motion_search.proofs.strip.marks_in_row.Goals as goal

pub half_away-upper-requires-clause-left : goal.half_away-upper-requires-clause-left
half_away-upper-requires-clause-left c = block_area_small c.args.window.block.now c.args.quarters.top_left 0 0
    c.requires.quarters.samples c.requires.quarters.top_left

pub half_away-upper-requires-clause-right : goal.half_away-upper-requires-clause-right
half_away-upper-requires-clause-right c = block_area_small c.args.window.block.now c.args.quarters.top_right 8 0
    c.requires.quarters.samples c.requires.quarters.top_right

pub half_away-lower-requires-clause-left : goal.half_away-lower-requires-clause-left
half_away-lower-requires-clause-left c = block_area_small c.args.window.block.now c.args.quarters.bottom_left 0 8
    c.requires.quarters.samples c.requires.quarters.bottom_left

pub half_away-lower-requires-clause-right : goal.half_away-lower-requires-clause-right
half_away-lower-requires-clause-right c = block_area_small c.args.window.block.now c.args.quarters.bottom_right 8 8
    c.requires.quarters.samples c.requires.quarters.bottom_right

pub half_away-upper-requires-clause-room : goal.half_away-upper-requires-clause-room
half_away-upper-requires-clause-room c = omega (arith, c.requires.sums.whole, c.requires.room)

pub half_away-lower-requires-clause-room : goal.half_away-lower-requires-clause-room
half_away-lower-requires-clause-room c = omega (arith, c.requires.sums.whole, c.requires.room)

pub half_away-upper-requires-clause-small : goal.half_away-upper-requires-clause-small
half_away-upper-requires-clause-small c = c.requires.sums.small

pub half_away-lower-requires-clause-small : goal.half_away-lower-requires-clause-small
half_away-lower-requires-clause-small c = c.requires.sums.small

pub returns : goal.returns
returns c = λ x y most i low high place limit hi unmarked inside.
    let w = c.args.window in
    let p = picture w.reference in
    let s = c.args.sums.now in
    let q = c.args.quarters in
    let at = c.args.at in
    let g = λ (k : ℕ). get_or s.sums k 0 in
    let are = c.requires.sums in
    let own = c.requires.quarters in
    let small = λ (n u v : ℕ). block_area_small w.block.now n u v own.samples in
    let top = λ (k : ℕ). abs_diff (g (at + k)) q.top_left + abs_diff (g (at + 8 + k)) q.top_right in
    let bottom = λ (k : ℕ). abs_diff (g (at + 3072 + k)) q.bottom_left + abs_diff (g (at + 3072 + 8 + k)) q.bottom_right
    in
    ruled_out_by_kept p s w.block.now q x y i at most are own low high inside (omega (arith, place, low))
    (c.marks_of.ensures top bottom most c.half_away-upper.ensures c.half_away-lower.ensures limit
    (λ k. omega (
      arith,
      half_small (g (at + k)) (g (at + 8 + k)) q.top_left q.top_right (are.small (at + k)) (are.small (at + 8 + k))
          (small q.top_left 0 0 own.top_left) (small q.top_right 8 0 own.top_right),
      half_small (g (at + 3072 + k)) (g (at + 3072 + 8 + k)) q.bottom_left q.bottom_right (are.small (at + 3072 + k))
          (are.small (at + 3072 + 8 + k)) (small q.bottom_left 0 8 own.bottom_left)
          (small q.bottom_right 8 8 own.bottom_right),
    )) i hi unmarked)
