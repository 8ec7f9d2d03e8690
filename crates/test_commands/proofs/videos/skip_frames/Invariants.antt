use Rattle.std.proofs.Common.{◌≡◌, true}
use Rattle.h263_outside.specs.Memory.{memory_outside}
use Rattle.h263_outside.specs.declared.desk.Role.TheVariants.{Video}
use Rattle.test_commands.proofs.videos.skip_frames.Given as goal

abbrev pub invariant-frames : goal.invariant-frames
invariant-frames l = record {
  attached : (memory_outside l.desk).attached Video ≡ true;
  same : l.reader.format ≡ l.fn.reader.format;
}
