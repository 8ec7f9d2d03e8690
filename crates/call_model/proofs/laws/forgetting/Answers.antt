use Rattle.call_model.proofs.Forgetting.{floor_is_known, no_floor, never_below, forget_is_intra}
use Rattle.call_model.proofs.laws.forgetting.Goals as goal

pub returns-clause-floor : goal.returns-clause-floor
returns-clause-floor g c = floor_is_known

pub returns-clause-nothing : goal.returns-clause-nothing
returns-clause-nothing g c = no_floor

pub returns-clause-never : goal.returns-clause-never
returns-clause-never g c pictures encoding rules = never_below pictures encoding rules

pub returns-clause-intra : goal.returns-clause-intra
returns-clause-intra g c pictures encoding rules = forget_is_intra pictures encoding rules
