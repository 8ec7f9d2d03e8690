use Rattle.std.proofs.Common.{◌≡◌, ◌≤◌, ◌==◌, not, filter, take, length}
use Rattle.packet_gaps.proofs.kept.without.Given as goal

abbrev pub invariant-loop-gap : goal.invariant-loop-gap
invariant-loop-gap l =
    (l.kept.items ≡ filter (λ g. not (g.number == l.number)) (take l.gap-index l.gaps))
    × (length l.kept.items ≤ l.gap-index)
