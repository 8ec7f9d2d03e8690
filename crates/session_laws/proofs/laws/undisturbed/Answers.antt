use Rattle.session_laws.proofs.Apart.{undisturbed}
use Rattle.session_laws.proofs.First.{undisturbed_first}
use Rattle.session_laws.proofs.laws.undisturbed.Goals as goal

pub returns-clause-any : goal.returns-clause-any
returns-clause-any c = undisturbed

pub returns-clause-first : goal.returns-clause-first
returns-clause-first c = undisturbed_first
