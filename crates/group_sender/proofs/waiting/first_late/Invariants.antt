use Rattle.std.proofs.Common.{◌≡◌, ◌<◌, ◌≤◌, ℕ, false, List}
use Rattle.call_model.specs.Coding.{Rules}
use Rattle.call_model.specs.Coding.{window as window_of}
use Rattle.group_sender.specs.Parties.{Party, party_at}
use Rattle.group_sender.specs.Running.{is_waited_for}
use Rattle.group_sender.specs.Standing.{MembersStand}
use Rattle.group_sender.proofs.waiting.first_late.Given as goal

-- none of the receivers that were looked at is waited for
abbrev pub invariant-places : goal.invariant-places
invariant-places l = (rules : Rules) (parties : List Party) → MembersStand rules l.fn.members l.sent parties
    → l.window ≡ window_of rules
    → window_of rules ≤ rules.slots → (j : ℕ) → j < l.k → is_waited_for rules l.sent (party_at parties j) ≡ false
