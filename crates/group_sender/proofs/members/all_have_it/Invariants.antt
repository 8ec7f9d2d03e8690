use Rattle.std.proofs.Common.{◌≡◌, ◌+◌, ◌<◌, ◌≤◌, ℕ, true, List}
use Rattle.std.specs.Prelude.{take}
use Rattle.std.specs.List.{list_all}
use Rattle.call_model.specs.Coding.{Rules}
use Rattle.group_sender.specs.Parties.{Party, may_go_by}
use Rattle.group_sender.specs.Standing.{MembersStand}
use Rattle.group_sender.proofs.members.all_have_it.Given as goal

-- each receiver that was looked at may be gone by
abbrev pub invariant-places : goal.invariant-places
invariant-places l = (rules : Rules) (sent : ℕ) (parties : List Party) → MembersStand rules l.fn.members sent parties
    → l.fn.number < sent
    → sent ≤ l.fn.number + rules.slots → list_all (may_go_by l.fn.number) (take l.k parties) ≡ true
