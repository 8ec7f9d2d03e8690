use Rattle.duplex_call.proofs.LastFour.{last_four_are}
use Rattle.duplex_call.proofs.laws.last_four_messages.Goals as goal

pub returns : goal.returns
returns c = last_four_are
