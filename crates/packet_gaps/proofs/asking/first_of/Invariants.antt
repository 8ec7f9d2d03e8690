use Rattle.std.proofs.Common.{◌≡◌, take, None}
use Rattle.std.specs.Prelude.{find}
use Rattle.packet_gaps.specs.Asking.{may_ask}
use Rattle.packet_gaps.proofs.asking.first_of.Given as goal

abbrev pub invariant-loop-gap : goal.invariant-loop-gap
invariant-loop-gap l = find (may_ask l.moment l.newest) (take l.gap-index l.gaps) ≡ None
