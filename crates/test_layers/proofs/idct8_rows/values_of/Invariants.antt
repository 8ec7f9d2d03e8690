use Rattle.std.proofs.Common.{◌≡◌, length, All}
use Rattle.h263_types.specs.Blocks.{IsValue}
use Rattle.test_layers.proofs.idct8_rows.values_of.Given as goal

abbrev pub invariant-loop-at : goal.invariant-loop-at
invariant-loop-at l = (length l.values ≡ 64) × All IsValue l.values
