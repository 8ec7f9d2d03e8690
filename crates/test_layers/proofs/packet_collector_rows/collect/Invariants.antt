use Rattle.std.proofs.Common.{◌≡◌, ◌≤◌}
use Rattle.h263_types.specs.declared.format.Format.TheVariants.{Cif}
use Rattle.packet_collector.specs.Collected.{first_of, format_of, row_of}
use Rattle.test_layers.proofs.packet_collector_rows.collect.Given as goal

-- the row of four pictures of CIF, and its first number
abbrev pub invariant-steps : goal.invariant-steps
invariant-steps l = record {
  format : format_of l.collector ≡ Cif;
  first : first_of l.collector ≡ l.first;
  many : row_of l.collector ≡ 4;
  few : l.first ≤ l._step;
}
