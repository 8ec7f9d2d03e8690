use Rattle.macroblock_layer.proofs.Spelt.{mb_written}
use Rattle.macroblock_layer.proofs.laws.written_is_text.Goals as goal

pub returns : goal.returns
returns c = mb_written c.in_a_syntax.ensures c.in_a_syntax-2.ensures
