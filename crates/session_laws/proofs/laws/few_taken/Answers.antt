use Rattle.session_laws.proofs.Granting.{few_taken}
use Rattle.session_laws.proofs.laws.few_taken.Goals as goal

pub returns : goal.returns
returns c = few_taken c.never_more.ensures
