use Rattle.std.proofs.Common.{◌≡◌, ◌==◌, true, sym, ◌∙◌}
use Rattle.h263_outside.proofs.Left.{left_in_file, nothing_read}
use Rattle.h263_outside.proofs.input.InputFile.read.Goals as goal

pub returns-then-buf-ge-MOST_AHEAD-clause-bytes : goal.returns-then-buf-ge-MOST_AHEAD-clause-bytes
returns-then-buf-ge-MOST_AHEAD-clause-bytes g c =
    let self = c.args.self.now in
    let empty : (self.ahead.end == self.ahead.at) ≡ true = sym c.is_empty.ensures ∙ c.if-is_empty.true in
    rw (
      left_in_file g.F.Read.remaining self empty,
      left_in_file g.F.Read.remaining (record { file = c.read_some.new.file; ahead = self.ahead }) empty,
    )
    c.read_some.ensures.bytes

pub returns-in_err-fill-clause-bytes : goal.returns-in_err-fill-clause-bytes
returns-in_err-fill-clause-bytes g c =
    let self = c.args.self.now in
    let empty : (self.ahead.end == self.ahead.at) ≡ true = sym c.is_empty.ensures ∙ c.if-is_empty.true in
    nothing_read _ _ _ c.from_residual.result _ c.args.buf.now c.from_residual.ensures.1
    (left_in_file g.F.Read.remaining self empty) c.fill.ensures.bytes
