use Rattle.std.proofs.Common.{arith}
use Rattle.h263_planes.specs.Lent.{picture}
use Rattle.motion_search.specs.Cost.{differences_from}
use Rattle.motion_search.proofs.Blocks.{no_rows, quarters_add}
use Rattle.motion_search.proofs.lent.differences_at.Goals as goal

pub returns-clause-value : goal.returns-clause-value
returns-clause-value c =
    let block = c.args.block.now in
    let p = picture c.args.reference in
    quarters_add (differences_from block p c.args.x c.args.y) c.four_rows.result c.four_rows-2.result
    c.four_rows-3.result c.four_rows-4.result
    (no_rows block p c.args.x c.args.y 16 c.told-block (omega arith))
    c.four_rows.ensures.value c.four_rows-2.ensures.value c.four_rows-3.ensures.value c.four_rows-4.ensures.value
