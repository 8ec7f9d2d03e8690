use Rattle.std.proofs.Common.{sym, ◌∙◌}
use Rattle.macroblock_layer.proofs.Skipped.{skipped_is_read}
use Rattle.macroblock_layer.proofs.reading.pass_skipped.Goals as goal

pub returns-clause-skipped : goal.returns-clause-skipped
returns-clause-skipped c = λ e quant reach predictor.
    rw c.skip.ensures (skipped_is_read c.args.kind quant reach predictor c.args.reader.now (sym c.is_skipped.ensures
    ∙ c.if-not-is_skipped.false))
