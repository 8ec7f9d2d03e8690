use Rattle.h263_bits.proofs.SyntaxLaws as general
use Rattle.macroblock_layer.specs.Text.{mb}
use Rattle.macroblock_layer.proofs.Productive.{mb_productive}
use Rattle.macroblock_layer.proofs.laws.one_reading.Goals as goal

pub returns : goal.returns
returns c = λ kind quant reach predictor a b x y more p q e. general.one_reading (mb kind quant reach predictor) a b x y
    more (mb_productive c.in_a_syntax.ensures c.in_a_syntax-2.ensures kind quant reach predictor) p q e
