use Rattle.call_model.proofs.Nearest.{nearest_is_greatest, nearest_is_in_period, nearest_is_none}
use Rattle.call_model.proofs.laws.nearest.Goals as goal

pub returns-clause-greatest : goal.returns-clause-greatest
returns-clause-greatest c = nearest_is_greatest

pub returns-clause-in_period : goal.returns-clause-in_period
returns-clause-in_period c = nearest_is_in_period

pub returns-clause-none : goal.returns-clause-none
returns-clause-none c = nearest_is_none
