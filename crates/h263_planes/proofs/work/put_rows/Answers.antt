use Rattle.std.proofs.Common.{arith}
use Rattle.h263_planes.proofs.Rows.{no_rows, one_more_at}
use Rattle.h263_planes.proofs.work.put_rows.Goals as goal

pub loop-k-init : goal.loop-k-init
loop-k-init g c = (
  no_rows c.args.width g.row.N c.args.stride c.args.samples.now c.args.from c.args.bytes.now,
  omega arith,
  omega arith,
)

pub loop-k-preserved : goal.loop-k-preserved
loop-k-preserved g c =
    let inv = c.loop-k.invariant in (
      one_more_at c.args.width g.row.N c.args.stride c.args.samples.now c.args.from c.loop-k.k c.loop-k.to c.loop-k.at
          c.args.bytes.now c.loop-k.bytes _ inv.1 inv.2 inv.0 c.put_row.ensures,
      omega (arith, inv.1),
      omega (arith, inv.2),
    )
