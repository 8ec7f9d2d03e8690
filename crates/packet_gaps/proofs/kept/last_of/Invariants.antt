use Rattle.std.proofs.Common.{◌≡◌, take, length}
use Rattle.packet_gaps.proofs.kept.last_of.Given as goal

abbrev pub invariant-loop-gap : goal.invariant-loop-gap
invariant-loop-gap l =
    (l.kept.items ≡ take l.gap-index l.gap-items) × (length l.kept.items ≡ l.gap-index)
