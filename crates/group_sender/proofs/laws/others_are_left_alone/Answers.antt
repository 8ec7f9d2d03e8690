use Rattle.group_sender.proofs.Lawful.{feedback_changes_one, join_changes_one, joiner_has_none, leave_changes_one, leaver_frees}
use Rattle.group_sender.proofs.laws.others_are_left_alone.Goals as goal

pub returns-clause-says : goal.returns-clause-says
returns-clause-says g c pictures encoding rules = feedback_changes_one pictures encoding rules

pub returns-clause-joins : goal.returns-clause-joins
returns-clause-joins g c = join_changes_one _ _ _

pub returns-clause-leaves : goal.returns-clause-leaves
returns-clause-leaves g c = leave_changes_one _ _ _

pub returns-clause-joiner : goal.returns-clause-joiner
returns-clause-joiner g c = joiner_has_none _ _ _

pub returns-clause-leaver : goal.returns-clause-leaver
returns-clause-leaver g c = leaver_frees _ _ _
