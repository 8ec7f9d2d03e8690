use Rattle.session_laws.proofs.Plays.{never_ahead}
use Rattle.session_laws.proofs.laws.never_ahead.Goals as goal

pub returns : goal.returns
returns c = never_ahead c.never_ahead.ensures
