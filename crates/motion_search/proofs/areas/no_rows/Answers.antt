use Rattle.std.proofs.Common.{◌+◌}
use Rattle.motion_search.proofs.AreaSums.{no_lanes}
use Rattle.motion_search.proofs.areas.no_rows.Goals as goal

pub returns : goal.returns
returns c = λ f y. record { left = no_lanes f (λ i. i) y; right = no_lanes f (λ i. 16 + i) y }
