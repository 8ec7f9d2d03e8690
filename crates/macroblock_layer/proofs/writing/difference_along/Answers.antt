use Rattle.std.proofs.Common.{arith}
use Rattle.std.specs.Prelude.{◌-ℤ◌}
use Rattle.std.specs.Int.{w8, w16}
use mir.Val.{SFits, to_z, of_z}
use Rattle.std.proofs.lemmas.Int.{ints, to_z-of_z}
use Rattle.macroblock_layer.proofs.Ranges.{component_fits, wrapped_same, sub_same}
use Rattle.macroblock_layer.proofs.writing.difference_along.Goals as goal

pub returns-clause-wrapped : goal.returns-clause-wrapped
returns-clause-wrapped c =
    let v = c.args.vector.y in
    let p = c.args.predictor.y in
    let v_fits : SFits w8 v = omega (arith, ints) in
    let p_fits : SFits w8 p = omega (arith, ints) in
    rw (to_z-of_z w8 c.wrapped.result (component_fits c.wrapped.result c.wrapped.ensures.low c.wrapped.ensures.high))
    (wrapped_same c.wrapped.result
    (to_z w16 (of_z w16 (to_z w16 (of_z w16 (to_z w8 (of_z w8 v))) -ℤ to_z w16 (of_z w16 (to_z w8 (of_z w8 p))))))
    (v -ℤ p) c.wrapped.ensures.wrapped (sub_same v p v_fits p_fits))
