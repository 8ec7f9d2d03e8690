use Rattle.std.proofs.Common.{◌≡◌, ◌+◌, ◌++◌, map, length}
use Rattle.packet_gaps.specs.Missing.{gap_of, numbers_from}
use Rattle.packet_gaps.proofs.kept.push_from.Given as goal

abbrev pub invariant-loop-more : goal.invariant-loop-more
invariant-loop-more l =
    (l.kept.items ≡ l.initial.kept.items ++ map (gap_of l.picture) (numbers_from l.first l.more))
    × (length l.kept.items ≡ length l.initial.kept.items + l.more)
