use Rattle.macroblock_layer.proofs.Lengths.{mb_short}
use Rattle.macroblock_layer.proofs.Productive.{mb_productive}
use Rattle.macroblock_layer.proofs.Spelt.{mb_written}
use Rattle.macroblock_layer.proofs.laws.in_a_syntax.Goals as goal

pub returns : goal.returns
returns c =
    let tables = c.in_a_syntax.ensures in
    let of_blocks = c.in_a_syntax-2.ensures in
    record {
      productive = mb_productive tables of_blocks;
      spelt = mb_written tables of_blocks;
      short = mb_short of_blocks;
    }
