use Rattle.std.proofs.Common.{◌+◌}
use Rattle.motion_search.proofs.AreaSums.{more_lanes}
use Rattle.motion_search.proofs.areas.with_row.Goals as goal

pub returns : goal.returns
returns c = λ f y n h hn row cols.
    record {
      left = more_lanes f (λ i. i) y n c.args.columns.left c.widened.result h hn cols.left
          (c.widened.ensures (λ i. f i (y + n)) row.left);
      right = more_lanes f (λ i. 16 + i) y n c.args.columns.right c.widened-2.result h hn cols.right
          (c.widened-2.ensures (λ i. f (16 + i) (y + n)) row.right);
    }
