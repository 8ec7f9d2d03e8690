use Rattle.std.proofs.Common.{◌≡◌, ◌+◌, ◌<◌, ◌≤◌, ℕ, false, List}
use Rattle.call_model.specs.Coding.{Rules}
use Rattle.call_model.specs.Coding.{window as window_of}
use Rattle.group_sender.specs.Parties.{Party, all_have}
use Rattle.group_sender.specs.Standing.{MembersStand}
use Rattle.group_sender.proofs.members.newest_for_all.Given as goal

-- none of the pictures that were looked at is one that all have
abbrev pub invariant-back : goal.invariant-back
invariant-back l = (rules : Rules) (parties : List Party) → MembersStand rules l.members l.sent parties
    → l.window ≡ window_of rules
    → window_of rules ≤ rules.slots → (m : ℕ) → m < l.sent → l.sent ≤ m + l.back → all_have parties m ≡ false
