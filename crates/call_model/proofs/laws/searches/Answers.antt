use Rattle.call_model.proofs.Searching.{one_rest_is_far, greatest_is, greatest_is_none, all_below_is}
use Rattle.call_model.proofs.laws.searches.Goals as goal

pub returns-clause-rests : goal.returns-clause-rests
returns-clause-rests c = one_rest_is_far

pub returns-clause-greatest : goal.returns-clause-greatest
returns-clause-greatest c = greatest_is

pub returns-clause-no_greatest : goal.returns-clause-no_greatest
returns-clause-no_greatest c = greatest_is_none

pub returns-clause-all_below : goal.returns-clause-all_below
returns-clause-all_below c = all_below_is
