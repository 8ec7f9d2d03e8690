use Rattle.std.proofs.Common.{arith}
use Rattle.std.specs.Int.{w8}
use mir.Val.{SFits}
use Rattle.std.proofs.lemmas.Int.{to_z-of_z, ints}
use Rattle.macroblock_layer.proofs.Ranges.{component_fits}
use Rattle.macroblock_layer.proofs.reading.moved.Goals as goal

pub returns : goal.returns
returns c =
    let p = c.args.predictor in
    let d = c.args.difference in
    let x = c.moved_by in
    let y = c.moved_by-2 in
    let px : SFits w8 p.x = omega (arith, ints) in
    let py : SFits w8 p.y = omega (arith, ints) in
    let dx : SFits w8 d.x = omega (arith, ints) in
    let dy : SFits w8 d.y = omega (arith, ints) in
    rw (
      to_z-of_z w8 x.result (component_fits x.result x.ensures.low x.ensures.high),
      to_z-of_z w8 y.result (component_fits y.result y.ensures.low y.ensures.high),
      x.ensures.wrapped,
      y.ensures.wrapped,
      to_z-of_z w8 p.x px,
      to_z-of_z w8 p.y py,
      to_z-of_z w8 d.x dx,
      to_z-of_z w8 d.y dy,
    )
