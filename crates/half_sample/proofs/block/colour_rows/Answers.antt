use Rattle.std.proofs.Common.{ℕ, List, ◌++◌, ◌+◌, ◌*◌, refl, ◌∙◌, lit≤, arith}
use Rattle.std.specs.List.{range_with_len}
use lib.Lanes.{pick_l}
use Rattle.half_sample.specs.Sources.{lane_between}
use Rattle.half_sample.proofs.Blocks.{row_step}
use Rattle.half_sample.proofs.Sources.{eight_lanes, lane_at, row_reach}
use Rattle.half_sample.proofs.block.colour_rows.Goals as goal

pub next_row-step-requires-clause-reach : goal.next_row-step-requires-clause-reach
next_row-step-requires-clause-reach c =
    row_reach c.args.source c.args.half 8 c.loop-j.j c.loop-j.at c.requires.rows c.loop-j-test.true c.loop-j.invariant.0

pub loop-j-preserved : goal.loop-j-preserved
loop-j-preserved c =
    let s = c.args.source in
    let half = c.args.half in
    let r = c.args.rounding in
    let j = c.loop-j.j in
    let inv = c.loop-j.invariant in
    let row : List ℕ = c.next_row-step.result.row in
    let long = c.next_row-step.ensures.long in (
      omega (arith, inv.0),
      c.next_row-step.ensures.below,
      row_step (λ k i. lane_between s half r (s.width * k) (0 + i)) c.loop-j.cb c.store.new.out
          (pick_l 0 (row ++ row) (range_with_len 0 8)) 8 j
          c.store.ensures.before c.store.ensures.stored inv.2
          (λ i hi. eight_lanes row 0 i long (lit≤ tt) hi ∙ c.next_row-step.ensures.row (0 + i) (omega arith)
          ∙ lane_at s half r c.loop-j.at (s.width * j) (0 + i) (0 + i) inv.0 refl),
      row_step (λ k i. lane_between s half r (s.width * k) (8 + i)) c.loop-j.cr c.store-in-loop-j.new.out
          (pick_l 0 (row ++ row) (range_with_len 8 8)) 8 j
          c.store-in-loop-j.ensures.before c.store-in-loop-j.ensures.stored inv.3
          (λ i hi. eight_lanes row 8 i long (lit≤ tt) hi ∙ c.next_row-step.ensures.row (8 + i) (omega arith)
          ∙ lane_at s half r c.loop-j.at (s.width * j) (8 + i) (8 + i) inv.0 refl),
    )
