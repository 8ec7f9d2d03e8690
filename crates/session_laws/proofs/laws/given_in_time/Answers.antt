use Rattle.session_laws.proofs.Giving.{given_in_time}
use Rattle.session_laws.proofs.laws.given_in_time.Goals as goal

pub returns : goal.returns
returns c = given_in_time
