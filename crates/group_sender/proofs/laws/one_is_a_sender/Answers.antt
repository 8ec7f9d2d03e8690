use Rattle.group_sender.proofs.OneReceiver.{one_is_a_sender}
use Rattle.group_sender.proofs.laws.one_is_a_sender.Goals as goal

pub returns : goal.returns
returns g c pictures encoding rules pace entries = one_is_a_sender pictures encoding rules pace entries
