use Rattle.std.proofs.Common.{◌≡◌, ◌+◌, drop}
use Rattle.sad_kernel.specs.Differences.{differences}
use Rattle.sad_kernel.proofs.one_by_one.Given as goal

-- what was added, and the differences of the rest, are all
abbrev pub invariant-loop-i : goal.invariant-loop-i
invariant-loop-i l = l.total + differences (drop l.i l.a) (drop l.i l.b) ≡ differences l.a l.b
