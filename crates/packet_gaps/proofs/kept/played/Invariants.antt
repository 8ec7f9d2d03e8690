use Rattle.std.proofs.Common.{◌≡◌, ◌≤◌, nat_le, filter, take, length}
use Rattle.packet_gaps.proofs.kept.played.Given as goal

abbrev pub invariant-loop-gap : goal.invariant-loop-gap
invariant-loop-gap l =
    (l.kept.items ≡ filter (λ g. nat_le l.next g.picture) (take l.gap-index l.gaps))
    × (length l.kept.items ≤ l.gap-index)
