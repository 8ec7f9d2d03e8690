use Rattle.block_layer.proofs.Lengths.{are_short}
use Rattle.block_layer.proofs.Productive.{are_productive}
use Rattle.block_layer.proofs.Ranges.{are_in_range}
use Rattle.block_layer.proofs.Spelt.{are_spelt, is_empty}
use Rattle.block_layer.proofs.laws.in_a_syntax.Goals as goal

pub returns : goal.returns
returns c =
    let tables = c.in_a_syntax.ensures in
    record {
      productive = are_productive tables;
      spelt = are_spelt tables;
      in_range = are_in_range;
      empty = is_empty;
      short = are_short;
    }
