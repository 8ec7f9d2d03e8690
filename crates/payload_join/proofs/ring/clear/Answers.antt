use Rattle.std.proofs.Common.{List, Option, None, ◌+◌, ◌%◌, set, refl, ap, add-one}
use Rattle.payload_join.specs.declared.parts.Parts.{Parts}
use Rattle.payload_join.specs.Places.{forgotten}
use Rattle.payload_join.proofs.ring.clear.Goals as goal

pub loop-k-init : goal.loop-k-init
unfolding forgotten
loop-k-init c = refl

pub loop-k-preserved : goal.loop-k-preserved
unfolding forgotten
loop-k-preserved c = rw add-one (ap (λ (l : List (Option Parts)). set l ((c.args.from + c.loop-k.k) % 64) None)
    c.loop-k.invariant)
