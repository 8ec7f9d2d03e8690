use Rattle.slice_layer.proofs.Written.{are_spelt}
use Rattle.slice_layer.proofs.laws.written_is_text.Goals as goal

pub returns : goal.returns
returns c = are_spelt c.in_a_syntax.ensures
