use Rattle.std.proofs.Common.{◌≡◌, ◌+◌, ◌<◌, ◌≤◌, ℕ, false}
use Rattle.call_model.specs.Coding.{Rules}
use Rattle.call_model.specs.Coding.{window as window_of}
use Rattle.group_sender.specs.Parties.{Party, party_has}
use Rattle.group_sender.specs.Standing.{MemberStands}
use Rattle.group_sender.proofs.waiting.has_one.Given as goal

-- it has none of the pictures that were looked at
abbrev pub invariant-back : goal.invariant-back
invariant-back l = (rules : Rules) (party : Party) → MemberStands rules l.fn.member l.sent party
    → l.window ≡ window_of rules
    → window_of rules ≤ rules.slots → (m : ℕ) → m < l.sent → l.sent ≤ m + l.back → party_has party m ≡ false
