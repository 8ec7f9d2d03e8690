use Rattle.std.proofs.Common.{arith}
use Rattle.std.specs.Int.{w8}
use mir.Val.{SFits}
use Rattle.std.proofs.lemmas.Int.{to_z-of_z, ints}
use Rattle.macroblock_layer.proofs.Ranges.{in_range}
use Rattle.macroblock_layer.proofs.prediction.median_of.Goals as goal

pub returns : goal.returns
returns c =
    let v = c.args.a in
    let w = c.args.b in
    let u = c.args.c in
    let x = c.median in
    let y = c.median-2 in
    let vx : SFits w8 v.x = omega (arith, ints) in
    let vy : SFits w8 v.y = omega (arith, ints) in
    let wx : SFits w8 w.x = omega (arith, ints) in
    let wy : SFits w8 w.y = omega (arith, ints) in
    let ux : SFits w8 u.x = omega (arith, ints) in
    let uy : SFits w8 u.y = omega (arith, ints) in
    rw (
      to_z-of_z w8 x.result (in_range x.result x.ensures.low x.ensures.high),
      to_z-of_z w8 y.result (in_range y.result y.ensures.low y.ensures.high),
      x.ensures.median,
      y.ensures.median,
      to_z-of_z w8 v.x vx,
      to_z-of_z w8 v.y vy,
      to_z-of_z w8 w.x wx,
      to_z-of_z w8 w.y wy,
      to_z-of_z w8 u.x ux,
      to_z-of_z w8 u.y uy,
    )
