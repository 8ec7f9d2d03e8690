use Rattle.std.proofs.Common.{◌≡◌, true}
use Rattle.h263_outside.specs.Memory.{memory_outside}
use Rattle.h263_outside.specs.declared.desk.Role.TheVariants.{Events}
use Rattle.test_commands.proofs.traces.skip_lines.Given as goal

abbrev pub invariant-lines : goal.invariant-lines
invariant-lines l = record { attached : (memory_outside l.desk).attached Events ≡ true }
