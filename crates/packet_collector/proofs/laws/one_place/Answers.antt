use Rattle.packet_collector.proofs.Forgetting.{one_place}
use Rattle.packet_collector.proofs.laws.one_place.Goals as goal

pub returns : goal.returns
returns c = λ taken n piece p q a b. one_place taken n piece p q a b
