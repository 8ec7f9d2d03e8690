use Rattle.std.proofs.Common.{◌≡◌, ℕ, ◌+◌, Bool, [], take, length}
use Rattle.picture_header.specs.declared.header.Header.{Header}
use Rattle.slice_layer.specs.Writer.{slice_kind, slice_format, first_mb_of, next_mb_of, quant_of, bytes_lent, writer_loan, HoldsSlice}
use Rattle.packet_cutter.specs.Taken.{unmarked}
use Rattle.packet_cutter.proofs.filling.fill.Given as goal

abbrev pub invariant-each : goal.invariant-each
invariant-each l = record {
  count : l.count ≡ l.mb-index;
  holds : (h : Header) (begins : Bool) (first : ℕ) → HoldsSlice l.initial.writer h begins first []
      → HoldsSlice l.writer h begins first (unmarked (take l.mb-index l.mbs));
  kind : slice_kind l.writer ≡ slice_kind l.initial.writer;
  format : slice_format l.writer ≡ slice_format l.initial.writer;
  quant : quant_of l.writer ≡ quant_of l.initial.writer;
  from : first_mb_of l.writer ≡ first_mb_of l.initial.writer;
  next : next_mb_of l.writer ≡ next_mb_of l.initial.writer + l.mb-index;
  loan : writer_loan l.writer ≡ writer_loan l.initial.writer;
  room : length (bytes_lent l.writer) ≡ length (bytes_lent l.initial.writer);
}
