use Rattle.std.proofs.Common.{arith}
use Rattle.std.proofs.lemmas.Simd.{length-chunk}
use Rattle.half_sample.proofs.Lanes.{load_is, load_small}
use Rattle.half_sample.proofs.rows.load.Goals as goal

pub returns-clause-value : goal.returns-clause-value
returns-clause-value g c = load_is g.row.N c.args.row.now c.requires

pub returns-clause-samples : goal.returns-clause-samples
returns-clause-samples g c = (
  length-chunk 0 g.row.N c.args.row.now (omega (arith, c.requires)),
  load_small g.row.N c.args.row.now c.type_inv.row,
)
