use Rattle.session_laws.proofs.Hearing.{begins, heard_again}
use Rattle.session_laws.proofs.laws.heard_again.Goals as goal

pub returns : goal.returns
returns c = (heard_again, begins)
