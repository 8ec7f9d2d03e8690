use Rattle.macroblock_layer.proofs.Lengths.{mb_short}
use Rattle.macroblock_layer.proofs.laws.longest_text.Goals as goal

pub returns : goal.returns
returns c = mb_short c.in_a_syntax.ensures
