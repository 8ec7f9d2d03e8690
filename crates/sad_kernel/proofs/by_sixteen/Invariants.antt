use Rattle.std.proofs.Common.{◌≡◌, ◌+◌, ◌-◌, ◌≤◌, length, drop}
use Rattle.sad_kernel.specs.Differences.{differences}
use Rattle.sad_kernel.proofs.by_sixteen.Given as goal

-- what was added, and the differences of the rest, are all
abbrev pub invariant-loop-at : goal.invariant-loop-at
invariant-loop-at l = (l.at ≤ length l.a) × (l.total + differences (drop l.at l.a) (drop l.at l.b)
    ≡ differences l.a l.b)

abbrev pub decreases-loop-at : goal.decreases-loop-at
decreases-loop-at l = length l.initial.a - l.at
