use Rattle.call_model.proofs.EachEnd.{each_end_runs}
use Rattle.call_model.proofs.laws.each_end_runs.Goals as goal

pub returns : goal.returns
returns g c coding rules = each_end_runs coding rules
