use Rattle.call_model.proofs.Refusing.{none_where_near, none_where_near_both, passed_where_near}
use Rattle.call_model.proofs.laws.refusals.Goals as goal

pub returns-clause-ideal : goal.returns-clause-ideal
returns-clause-ideal g c rules = none_where_near _ _ _ rules

pub returns-clause-both : goal.returns-clause-both
returns-clause-both g c coding rules = none_where_near_both coding rules

pub returns-clause-passed : goal.returns-clause-passed
returns-clause-passed g c pictures rules source count = passed_where_near pictures rules source count
