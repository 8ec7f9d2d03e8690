use Rattle.std.proofs.Common.{◌≡◌, ◌+◌, ◌≤◌, length, drop}
use Rattle.y4m.specs.Line.{agreement}
use Rattle.y4m.proofs.line.agreed.Given as goal

abbrev pub invariant-loop-i : goal.invariant-loop-i
invariant-loop-i l = record {
  same : l.i + agreement (drop l.i l.word) (drop l.i l.line) ≡ agreement l.word l.line;
  within : l.i ≤ length l.line;
}
