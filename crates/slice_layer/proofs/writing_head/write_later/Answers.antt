use Rattle.std.proofs.Common.{arith}
use Rattle.slice_layer.proofs.Openings.{length-later}
use Rattle.slice_layer.proofs.writing_head.write_later.Goals as goal

pub returns-clause-len : goal.returns-clause-len
returns-clause-len c = omega (
  arith,
  c.write_place.ensures.len,
  c.write_tail.ensures.len,
  length-later c.args.header.now c.args.first,
)
