use Rattle.std.proofs.Common.{◌≡◌, true}
use Rattle.h263_outside.specs.Memory.{memory_outside}
use Rattle.h263_outside.specs.declared.desk.Role.TheVariants.{Video, Pictures}
use Rattle.test_commands.proofs.outside.take_all.Given as goal

abbrev pub invariant-steps : goal.invariant-steps
invariant-steps l = record {
  video : (memory_outside l.desk).attached Video ≡ true;
  pictures : (memory_outside l.desk).attached Pictures ≡ true;
}
