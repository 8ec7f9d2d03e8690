use Rattle.std.proofs.Common.{◌≡◌}
use Rattle.h263_types.specs.declared.format.Format.TheVariants.{SubQcif}
use Rattle.group_call.specs.Holding.{IsCasting, params_in}
use Rattle.test_sessions.proofs.called_tests.first_wrong.Given as goal

abbrev pub invariant-acts : goal.invariant-acts
invariant-acts l = ((params_in l.cast).format ≡ SubQcif) × IsCasting l.cast
