use Rattle.std.proofs.Common.{◌≡◌, take, false}
use Rattle.std.specs.List.{list_any}
use Rattle.packet_gaps.specs.Asking.{is_asked_gap}
use Rattle.packet_gaps.proofs.asking.is_asked.Given as goal

abbrev pub invariant-loop-gap : goal.invariant-loop-gap
invariant-loop-gap l =
    list_any (is_asked_gap l.moment l.newest l.first l.distance) (take l.gap-index l.gaps) ≡ false
