-- A write that was interrupted has written nothing.
use Rattle.std.specs.Io.KnownBytes.{Keeps}
use Rattle.h263_outside.proofs.files.write_some.Given as goal

abbrev pub invariant-tries : goal.invariant-tries
invariant-tries g l = Keeps (g.F.Write.contents l.fn.file) (g.F.Write.contents l.file)
