use Rattle.std.proofs.Common.{arith}
use Rattle.slice_layer.proofs.Openings.{length-begins}
use Rattle.slice_layer.proofs.writing_head.write_beginning.Goals as goal

pub returns-clause-len : goal.returns-clause-len
returns-clause-len c = omega (
  arith,
  c.write_header.ensures.len,
  c.write_first.ensures.len,
  length-begins c.in_a_syntax.ensures c.args.header.now 0,
)
