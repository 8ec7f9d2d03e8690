use Rattle.std.proofs.Common.{◌≡◌, ◌≤◌}
use Rattle.h263_types.specs.declared.format.Format.TheVariants.{SubQcif}
use Rattle.test_sessions.proofs.by_hand_tests.first_wrong.Given as goal

abbrev pub invariant-steps : goal.invariant-steps
invariant-steps l = (l.group.params.format ≡ SubQcif) × (l.group.sender.sent ≤ l.place)
