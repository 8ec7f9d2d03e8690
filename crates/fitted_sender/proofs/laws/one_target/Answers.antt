use Rattle.fitted_sender.proofs.Plain.{plain_is_run}
use Rattle.fitted_sender.proofs.laws.one_target.Goals as goal

pub returns : goal.returns
returns c = plain_is_run c.forgetting.ensures.nothing
