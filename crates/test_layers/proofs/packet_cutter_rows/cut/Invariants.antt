use Rattle.std.proofs.Common.{◌≡◌}
use Rattle.packet_cutter.specs.Cutting.{cut_format}
use Rattle.test_layers.proofs.packet_cutter_rows.cut.Given as goal

abbrev pub invariant-pictures : goal.invariant-pictures
invariant-pictures l = cut_format l.cutter ≡ l.format
