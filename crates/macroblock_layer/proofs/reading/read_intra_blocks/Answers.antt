use Rattle.std.proofs.Common.{arith}
use Rattle.macroblock_layer.specs.Text.{intra}
use Rattle.macroblock_layer.proofs.Sixes.{six_read}
use Rattle.macroblock_layer.proofs.reading.read_intra_blocks.Goals as goal

pub returns : goal.returns
returns c =
    six_read intra c.args.pattern.cbpy c.args.pattern.cbpc c.args.out.now _ _ _ _ _ _ _ _ _ _ _ _ _ (omega arith)
    c.in_ok-read_intra_block.ensures c.in_ok-read_intra_block-2.ensures c.in_ok-read_intra_block-3.ensures
    c.in_ok-read_intra_block-4.ensures c.in_ok-read_intra_block-5.ensures c.in_ok-read_intra_block-6.ensures
