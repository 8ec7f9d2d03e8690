use Rattle.std.proofs.Common.{◌-◌, ◌/◌, arith}
use Rattle.line_follower.proofs.Targets.{lowers_high}
use Rattle.line_follower.proofs.search.target_for.Goals as goal

pub loop-low-preserved : goal.loop-low-preserved
loop-low-preserved c =
    let q = c.quant.ensures in
    let t = c.loop-low-test.true in
    lowers_high c.args.quant c.args.finest c.args.most c.args.sizes.now c.loop-low.low c.loop-low.high
    (c.loop-low.high - (c.loop-low.high - c.loop-low.low) / 2) c.loop-low.invariant (omega arith)
    (let f = c.if-quant.false in omega arith)
