use Rattle.std.proofs.Common.{◌+◌, ◌*◌, ◌∙◌, arith}
use Rattle.half_sample.specs.Sources.{lane_between}
use Rattle.half_sample.proofs.Blocks.{row_step}
use Rattle.half_sample.proofs.Sources.{lane_at, row_reach}
use Rattle.half_sample.proofs.block.luma_rows.Goals as goal

pub next_row-step-requires-clause-reach : goal.next_row-step-requires-clause-reach
next_row-step-requires-clause-reach c =
    row_reach c.args.source c.args.half 16 c.loop-j.j c.loop-j.at c.requires.rows c.loop-j-test.true
    c.loop-j.invariant.0

pub loop-j-preserved : goal.loop-j-preserved
loop-j-preserved c =
    let s = c.args.source in
    let half = c.args.half in
    let r = c.args.rounding in
    let j = c.loop-j.j in
    let inv = c.loop-j.invariant in (
      omega (arith, inv.0),
      c.next_row-step.ensures.below,
      row_step (λ k i. lane_between s half r (s.width * k) (0 + i)) c.loop-j.out c.store.new.out
          c.next_row-step.result.row 16 j
          c.store.ensures.before c.store.ensures.stored inv.2
          (λ i hi. c.next_row-step.ensures.row i hi
          ∙ lane_at s half r c.loop-j.at (s.width * j) i (0 + i) inv.0 (omega arith)),
    )
