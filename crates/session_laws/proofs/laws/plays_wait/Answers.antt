use Rattle.session_laws.proofs.Plays.{plays_wait}
use Rattle.session_laws.proofs.laws.plays_wait.Goals as goal

pub returns : goal.returns
returns c = plays_wait c.in_time.ensures
