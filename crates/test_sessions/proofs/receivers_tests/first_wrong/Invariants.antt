use Rattle.std.proofs.Common.{◌≡◌, ◌+◌, ◌≤◌, true}
use Rattle.h263_types.specs.declared.format.Format.TheVariants.{SubQcif}
use Rattle.test_sessions.proofs.receivers_tests.first_wrong.Given as goal

abbrev pub invariant-pictures : goal.invariant-pictures
invariant-pictures l = (l.group.params.format ≡ SubQcif) × (l.group.sender.sent ≤ l.number)
    × (l.group.sender.draws_all ≡ true)
    × (l.three.first.played ≤ l.number) × (l.three.second.played ≤ l.number) × (l.three.third.played ≤ l.number + 5)
