use Rattle.session_laws.proofs.Plays.{plays_are_due}
use Rattle.session_laws.proofs.laws.plays_are_due.Goals as goal

pub returns : goal.returns
returns c = plays_are_due
