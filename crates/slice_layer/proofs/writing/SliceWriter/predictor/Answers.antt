use Rattle.std.proofs.Common.{◌∙◌, ℕ, take, ap}
use Rattle.h263_types.specs.declared.vector.Vector.{Vector}
use Rattle.macroblock_layer.specs.Prediction.{predictor_of}
use Rattle.macroblock_layer.specs.Written.{mb_text}
use Rattle.slice_layer.specs.Writer.{slice_kind, quant_of}
use Rattle.slice_layer.proofs.Holding.{prediction, not_predicted}
use Rattle.slice_layer.proofs.writing.SliceWriter.predictor.Goals as goal

pub returns-in-Skip : goal.returns-in-Skip
returns-in-Skip c =
    let w = c.args.self.now in
    not_predicted (slice_kind w) (quant_of w) _ (prediction w) c.args.mb.now _ c.in-Skip.is tt

pub returns-in-Intra : goal.returns-in-Intra
returns-in-Intra c =
    let w = c.args.self.now in
    not_predicted (slice_kind w) (quant_of w) _ (prediction w) c.args.mb.now _ c.in-Intra.is tt

pub returns-in-Inter : goal.returns-in-Inter
returns-in-Inter c =
    let w = c.args.self.now in
    let found = c.predictor.ensures
    ∙ ap (λ (k : ℕ). predictor_of (take w.next w.vectors) w.first w.next k) c.columns.ensures in
    ap (λ (v : Vector). mb_text (slice_kind w) (quant_of w) v c.args.mb.now) found
