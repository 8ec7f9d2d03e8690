use Rattle.block_layer.proofs.Lengths.{are_short}
use Rattle.block_layer.proofs.laws.longest_text.Goals as goal

pub returns : goal.returns
returns c = are_short
