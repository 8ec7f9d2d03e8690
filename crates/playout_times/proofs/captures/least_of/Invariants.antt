use Rattle.std.proofs.Common.{◌≡◌, take}
use Rattle.playout_times.specs.Ways.{least_number}
use Rattle.playout_times.proofs.captures.least_of.Given as goal

abbrev pub invariant-loop-time : goal.invariant-loop-time
invariant-loop-time l = l.earliest ≡ least_number (take l.time-index l.captured)
