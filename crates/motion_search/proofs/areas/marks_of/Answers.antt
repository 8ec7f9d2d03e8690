use Rattle.std.proofs.Common.{◌+◌}
use Rattle.motion_search.proofs.AreaSums.{both_lanes, mark_tells}
use Rattle.motion_search.proofs.areas.marks_of.Goals as goal

pub returns : goal.returns
returns c = λ top bottom most upper lower limit fits i hi unmarked.
    mark_tells _ (λ k. top k + bottom k) most i (both_lanes top bottom c.args.upper c.args.lower upper lower fits) hi
    (rw limit at unmarked)
