use Rattle.event_logs.proofs.Entries.{entry_is, entry_found}
use Rattle.event_logs.proofs.laws.exact_entries.Goals as goal

pub returns-clause-read : goal.returns-clause-read
returns-clause-read c = entry_is

pub returns-clause-spelled : goal.returns-clause-spelled
returns-clause-spelled c = entry_found
