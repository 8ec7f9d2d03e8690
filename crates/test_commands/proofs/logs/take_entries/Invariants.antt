use Rattle.std.proofs.Common.{◌≡◌, true}
use Rattle.h263_outside.specs.Memory.{memory_outside}
use Rattle.h263_outside.specs.declared.desk.Role.TheVariants.{Events}
use Rattle.test_commands.proofs.logs.take_entries.Given as goal

abbrev pub invariant-entries : goal.invariant-entries
invariant-entries l = record { attached : (memory_outside l.desk).attached Events ≡ true }
