use Rattle.std.proofs.Common.{◌≡◌, true}
use Rattle.h263_outside.specs.Memory.{memory_outside}
use Rattle.h263_outside.specs.declared.desk.Role.TheVariants.{Events}
use Rattle.test_commands.proofs.traces.read_trace.Given as goal

abbrev pub invariant-calls : goal.invariant-calls
invariant-calls l = record { attached : (memory_outside l.desk).attached Events ≡ true }
