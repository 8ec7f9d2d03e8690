use Rattle.std.proofs.Common.{◌≡◌, ◌+◌, ◌≤◌, length, drop}
use Rattle.y4m.specs.Line.{before_gap}
use Rattle.y4m.proofs.line.gap_from.Given as goal

abbrev pub invariant-loop-end : goal.invariant-loop-end
invariant-loop-end l = record {
  same : l.end + length (before_gap (drop l.end l.line)) ≡ l.at + length (before_gap (drop l.at l.line));
  within : l.end ≤ length l.line;
}
