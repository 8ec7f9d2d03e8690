use Rattle.std.proofs.Common.{◌≡◌, length, All}
use Rattle.idct8.specs.Ranges.{IsSample}
use Rattle.test_layers.proofs.idct8_rows.samples_of.Given as goal

abbrev pub invariant-loop-at : goal.invariant-loop-at
invariant-loop-at l = (length l.samples ≡ 64) × All IsSample l.samples
