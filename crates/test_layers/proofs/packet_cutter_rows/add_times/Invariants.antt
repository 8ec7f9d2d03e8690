use Rattle.std.proofs.Common.{◌≡◌, ◌+◌}
use Rattle.packet_cutter.specs.Cutting.{cut_format, cutter_kind, cutter_quant, added_of, IsPictureBegun}
use Rattle.test_layers.proofs.packet_cutter_rows.add_times.Given as goal

abbrev pub invariant-times : goal.invariant-times
invariant-times l = record {
  begun : IsPictureBegun l.cutter;
  kind : cutter_kind l.cutter ≡ cutter_kind l.initial.cutter;
  quant : cutter_quant l.cutter ≡ cutter_quant l.initial.cutter;
  format : cut_format l.cutter ≡ cut_format l.initial.cutter;
  added : added_of l.cutter ≡ added_of l.initial.cutter + l._time;
}
