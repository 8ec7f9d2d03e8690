use Rattle.motion_search.proofs.AreaSums.{left_areas, right_areas}
use Rattle.motion_search.proofs.areas.areas.Goals as goal

pub returns : goal.returns
returns c = λ f y h cols. (
  left_areas f y c.args.columns.left c.args.columns.right h cols.left cols.right,
  right_areas f y c.args.columns.left c.args.columns.right h cols.left cols.right,
)
