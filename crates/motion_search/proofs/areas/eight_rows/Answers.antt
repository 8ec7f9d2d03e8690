use Rattle.std.proofs.Common.{◌≡◌, ℕ, ◌+◌, ◌%◌, ◌*◌, arith, subst}
use Rattle.motion_search.specs.Areas.{AreColumns}
use Rattle.motion_search.proofs.AreaSums.{twice, block_row_twice}
use Rattle.motion_search.proofs.areas.eight_rows.Goals as goal

pub loop-k-init : goal.loop-k-init
loop-k-init c = (omega arith, c.no_rows-columns.ensures (twice c.args.block.now) c.args.j)

pub loop-k-preserved : goal.loop-k-preserved
loop-k-preserved c =
    let block = c.args.block.now in
    let j = c.args.j in
    let k = c.loop-k.k in (
      omega (arith, c.loop-k-test.true),
      c.with_row-columns.ensures (twice block) j k (λ x y. c.are_samples.ensures (16 * y + x % 16))
          (omega (arith, c.loop-k-test.true))
          (block_row_twice block c.block_row-row.result.now (j + k) c.block_row-row.ensures.value) c.loop-k.invariant.1,
    )

pub returns : goal.returns
returns c =
    let e : c.loop-k.k ≡ 8 = omega (arith, c.loop-k.invariant.0, c.loop-k-test.false) in
    subst (λ (n : ℕ). AreColumns (twice c.args.block.now) c.args.j n c.loop-k.columns) e c.loop-k.invariant.1
