use Rattle.sender_end.proofs.Drawing.{empty_seen}
use Rattle.sender_end.proofs.late.LateStore.start.Goals as goal

pub returns-clause-empty : goal.returns-clause-empty
returns-clause-empty c = empty_seen _ _ _ _ c.in_ok-store.store c.in_ok-store.ensures
