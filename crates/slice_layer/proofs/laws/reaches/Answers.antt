use Rattle.slice_layer.proofs.Reach.{reach_within}
use Rattle.slice_layer.proofs.laws.reaches.Goals as goal

pub returns : goal.returns
returns c = reach_within
