use Rattle.slice_layer.proofs.Adding.{are_short}
use Rattle.slice_layer.proofs.Bodies.{are_read}
use Rattle.slice_layer.proofs.Reach.{reach_within}
use Rattle.slice_layer.proofs.Written.{are_spelt, is_one_more}
use Rattle.slice_layer.proofs.laws.in_a_syntax.Goals as goal

pub returns : goal.returns
returns c =
    let headers = c.in_a_syntax.ensures in
    let macroblocks = c.in_a_syntax-2.ensures in
    record {
      read = are_read macroblocks;
      spelt = are_spelt macroblocks;
      short = are_short headers macroblocks;
      one_more = is_one_more;
      reach = reach_within;
    }
