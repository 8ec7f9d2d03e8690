use Rattle.std.proofs.Common.{◌-◌}
use Rattle.h263_region.specs.Slots.{count_of, out_of}
use Rattle.h263_region.specs.Claimed.{IsClaiming}
use Rattle.payload_join.proofs.ring.claim_all.Given as goal

abbrev pub invariant-loop-slot : goal.invariant-loop-slot
invariant-loop-slot l = IsClaiming l.initial.region l.region l.slots

abbrev pub decreases-loop-slot : goal.decreases-loop-slot
decreases-loop-slot l = count_of l.region - out_of l.region
