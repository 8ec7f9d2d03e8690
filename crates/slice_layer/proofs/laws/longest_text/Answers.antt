use Rattle.slice_layer.proofs.Adding.{are_short}
use Rattle.slice_layer.proofs.laws.longest_text.Goals as goal

pub returns : goal.returns
returns c = are_short c.in_a_syntax.ensures c.in_a_syntax-2.ensures
