use Rattle.std.proofs.Common.{◌≤◌, arith}
use Rattle.std.proofs.Math.Nat.{mul-le-mul_left}
use Rattle.picture_recon.proofs.blocks.eight_rows.Goals as goal

pub row_at-row-requires : goal.row_at-row-requires
row_at-row-requires c =
    let last : c.loop-j.j ≤ 7 = omega (arith, c.loop-j-test.true) in
    omega (arith, mul-le-mul_left c.args.width last, c.loop-j.invariant.1, c.requires.rows)

pub overflow_add-at : goal.overflow_add-at
overflow_add-at c =
    let last : c.loop-j.j ≤ 7 = omega (arith, c.loop-j-test.true) in
    record { fits = omega (arith, mul-le-mul_left c.args.width last, c.loop-j.invariant.1, c.requires.width) }
