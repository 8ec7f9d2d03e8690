use Rattle.packet_collector.proofs.Forgetting.{forgotten}
use Rattle.packet_collector.proofs.laws.forgets.Goals as goal

pub returns : goal.returns
returns c = λ collector first taken so. forgotten collector first taken so
