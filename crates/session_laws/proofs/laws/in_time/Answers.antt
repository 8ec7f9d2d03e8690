use Rattle.session_laws.proofs.Giving.{in_time, of_one_sender}
use Rattle.session_laws.proofs.laws.in_time.Goals as goal

pub returns-clause-given : goal.returns-clause-given
returns-clause-given c = in_time c.is_decoding.ensures c.are_rules.ensures c.any_sound_sender.ensures

pub returns-clause-sender : goal.returns-clause-sender
returns-clause-sender c = of_one_sender c.is_decoding.ensures c.are_rules.ensures c.any_sound_sender.ensures
