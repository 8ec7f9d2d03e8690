use Rattle.session_laws.proofs.Recovered.{never_shut_out}
use Rattle.session_laws.proofs.laws.never_shut_out.Goals as goal

pub returns : goal.returns
returns c = never_shut_out c.never_shut_out.ensures
