use Rattle.std.proofs.Common.{refl, ◌∙◌, pos, arith, length-set}
use Rattle.std.proofs.lemmas.Int.{ints}
use Rattle.std.proofs.lemmas.List.Elements.{All-replicate, All-set}
use Rattle.h263_types.specs.Blocks.{IsValue}
use Rattle.test_layers.proofs.idct8_rows.values_of.Goals as goal

pub loop-at-init : goal.loop-at-init
loop-at-init c =
    let none : IsValue (pos 0) = record { low = omega (arith, ints); high = omega (arith, ints) } in
    (refl, All-replicate IsValue 64 (pos 0) none)

pub loop-at-preserved : goal.loop-at-preserved
loop-at-preserved c = (
  length-set c.loop-at.values c.loop-at.at _ ∙ c.loop-at.invariant.0,
  All-set IsValue c.loop-at.values c.loop-at.at _ (record { low = omega (arith, ints); high = omega (arith, ints) })
      c.loop-at.invariant.1,
)
