use Rattle.call_model.proofs.SmallLaws.{scenes_agree, scenes_are_lawful}
use Rattle.call_model.proofs.worked.ends_agree.Goals as goal

pub returns-clause-agree : goal.returns-clause-agree
returns-clause-agree c = scenes_agree

pub returns-clause-lawful : goal.returns-clause-lawful
returns-clause-lawful c = scenes_are_lawful
