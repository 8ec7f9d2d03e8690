use Rattle.std.proofs.Common.{arith, ◌*◌, ◌+◌, ◌%◌}
use Rattle.motion_search.specs.Areas.{AreSamplesAt}
use Rattle.motion_search.proofs.AreaSums.{twice, quarter_is}
use Rattle.motion_search.proofs.areas.quarters_of.Goals as goal

pub returns : goal.returns
returns c =
    let block = c.args.block.now in
    let h : AreSamplesAt (twice block) = λ x y. c.are_samples.ensures (16 * y + x % 16) in
    let top = (c.areas.ensures (twice block) 0 h c.eight_rows.ensures).0 in
    let bottom = (c.areas-2.ensures (twice block) 8 h c.eight_rows-2.ensures).0 in
    record {
      long = c.told-block;
      samples = c.are_samples.ensures;
      top_left = quarter_is block _ 0 0 (omega arith) top;
      top_right = quarter_is block _ 8 0 (omega arith) top;
      bottom_left = quarter_is block _ 0 8 (omega arith) bottom;
      bottom_right = quarter_is block _ 8 8 (omega arith) bottom;
    }
