use Rattle.slice_layer.proofs.Written.{is_one_more}
use Rattle.slice_layer.proofs.laws.one_more.Goals as goal

pub returns : goal.returns
returns c = is_one_more
