use Rattle.h263_bits.proofs.SyntaxLaws as general
use Rattle.block_layer.specs.Text.{intra_block, inter_block}
use Rattle.block_layer.proofs.Productive.{intra_productive, inter_productive}
use Rattle.block_layer.proofs.laws.one_reading.Goals as goal

pub returns-clause-intra : goal.returns-clause-intra
returns-clause-intra c = λ coded a b x y more p q e. general.one_reading (intra_block coded) a b x y more
    (intra_productive c.in_a_syntax.ensures coded) p q e

pub returns-clause-inter : goal.returns-clause-inter
returns-clause-inter c = λ a b x y more p q e. general.one_reading inter_block a b x y more
    (inter_productive c.in_a_syntax.ensures) p q e
