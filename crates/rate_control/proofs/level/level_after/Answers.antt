use Rattle.std.proofs.Common.{◌<◌, length, sym, arith}
use Rattle.rate_control.proofs.Levels.{level_more, level_none}
use Rattle.rate_control.proofs.level.level_after.Goals as goal

pub loop-size-init : goal.loop-size-init
loop-size-init c = (sym (level_none c.args.target), omega arith)

pub loop-size-preserved : goal.loop-size-preserved
loop-size-preserved c =
    let i = c.loop-size.size-index in
    let sizes = c.args.sizes.now in
    let more : i < length sizes = omega arith in
    let e = level_more c.args.target sizes i 0 more in
    let small = c.type_inv.sizes i in
    (omega (arith, e), omega (arith, small))
