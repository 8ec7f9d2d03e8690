use Rattle.std.proofs.Common.{◌+◌}
use Rattle.h263_planes.specs.Lent.{picture}
use Rattle.motion_search.proofs.Held.{lent_beside}
use Rattle.motion_search.proofs.kept.with_samples.Goals as goal

pub returns : goal.returns
returns c = λ f top n bytes beside hn e cols.
    c.with_row.ensures f top n bytes hn
    (lent_beside (picture c.args.reference) c.args.x c.args.z c.args.y (top + n) f c.row-left.result.now
    c.row-right.result.now beside e c.row-left.ensures.samples c.row-right.ensures.samples) cols
