use Rattle.std.proofs.Common.{◌≡◌, ◌+◌}
use Rattle.slice_layer.specs.Writer.{slice_kind, slice_format, first_mb_of, next_mb_of, quant_of}
use Rattle.test_layers.proofs.slice_writer_rows.write_all.Given as goal

-- the picture, and what the slice has so far
abbrev pub invariant-words : goal.invariant-words
invariant-words l = record {
  kind : slice_kind l.writer ≡ slice_kind l.initial.writer;
  format : slice_format l.writer ≡ slice_format l.initial.writer;
  from : first_mb_of l.writer ≡ first_mb_of l.initial.writer;
  next : next_mb_of l.writer ≡ next_mb_of l.initial.writer + l.added;
  quant : quant_of l.writer ≡ l.quant;
}
