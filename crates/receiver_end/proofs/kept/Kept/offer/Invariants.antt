use Rattle.std.proofs.Common.{◌≡◌, ℕ, ◌+◌, ◌<◌, ◌≤◌, false}
use Rattle.receiver_end.specs.State.{slot_holds}
use Rattle.receiver_end.proofs.kept.Kept.offer.Given as goal

-- none of the numbers that were looked at is kept
abbrev pub invariant-scan : goal.invariant-scan
invariant-scan l = (m : ℕ) → m ≤ l.top → l.top < m + l.i → slot_holds l.self.params l.self.store m ≡ false
