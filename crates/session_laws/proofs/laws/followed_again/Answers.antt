use Rattle.session_laws.proofs.Recovered.{followed_again}
use Rattle.session_laws.proofs.laws.followed_again.Goals as goal

pub returns : goal.returns
returns c = followed_again
