use Rattle.std.proofs.Common.{◌≡◌, ◌+◌, ◌≤◌}
use Rattle.slice_layer.specs.Writer.{next_mb_of, quant_of, GoesOn}
use Rattle.test_layers.proofs.slice_writer_rows.add_times.Given as goal

-- what stays of the writer, and the number of the next macroblock
abbrev pub invariant-times : goal.invariant-times
invariant-times l = record {
  slice : GoesOn l.initial.writer l.writer;
  quant : quant_of l.writer ≡ quant_of l.initial.writer;
  next : next_mb_of l.writer ≡ next_mb_of l.initial.writer + l.fits;
  few : l.fits ≤ l._time;
}
