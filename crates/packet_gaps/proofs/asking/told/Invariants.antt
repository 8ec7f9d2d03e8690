use Rattle.std.proofs.Common.{◌≡◌, map, take, length}
use Rattle.packet_gaps.specs.Asking.{when_told}
use Rattle.packet_gaps.proofs.asking.told.Given as goal

abbrev pub invariant-loop-gap : goal.invariant-loop-gap
invariant-loop-gap l =
    (l.after.items ≡ map (when_told l.moment l.newest l.first) (take l.gap-index l.gaps))
    × (length l.after.items ≡ l.gap-index)
