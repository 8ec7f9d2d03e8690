use Rattle.std.proofs.Common.{◌≡◌, ◌*◌, ◌≤◌, ◌^◌, take}
use Rattle.rate_control.specs.Level.{level_of}
use Rattle.rate_control.proofs.level.level_after.Given as goal

abbrev pub invariant-loop-size : goal.invariant-loop-size
invariant-loop-size l =
    (l.level ≡ level_of l.target (take l.size-index l.sizes)) × (l.level ≤ l.size-index * 2 ^ 32)
