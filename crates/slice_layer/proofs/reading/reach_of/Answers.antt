use Rattle.slice_layer.proofs.Reach.{reach_is}
use Rattle.slice_layer.proofs.reading.reach_of.Goals as goal

pub returns-clause-value : goal.returns-clause-value
returns-clause-value c = reach_is c.args.format c.args.at c.reach.result c.requires c.reach.ensures
