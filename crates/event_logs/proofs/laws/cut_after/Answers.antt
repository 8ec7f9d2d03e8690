use Rattle.event_logs.proofs.Entries.{stays}
use Rattle.event_logs.proofs.laws.cut_after.Goals as goal

pub returns : goal.returns
returns c = stays
